-- What the code of a step over a slot finds, and what it means for the desk.
use Rattle.std.specs.Prelude.{ℕ, ◌+◌, ◌*◌, ◌/◌, ◌%◌, ◌<◌, ◌≤◌, Bool, true, false, not, ◌||◌, ◌≡◌, refl, length, set, Result, Ok}
use mathlib.Core.List.{List}
use Rattle.std.proofs.Common.{⊎_elim, ◌∙◌, subst, arith, length-set, get_or-set_same, get_or-set_other, eq-eqb, ne_eqb}
use Rattle.std.proofs.Math.Path.{sym, ap, subst⁻¹}
use Rattle.std.proofs.Math.ListN.{get_or}
use Rattle.base_laws.specs.Bools.{clash, no_true, and_fails_left, eq_or_ne}
use Rattle.base_laws.specs.Definitions.{has}
use Rattle.base_laws.specs.Tables.{get_d_tabulate, length_tabulate}
use Rattle.base_ids.specs.declared.Position.{Position}
use Rattle.base_ids.specs.declared.Refusal.{Refusal}
use Rattle.base_ids.specs.Definitions.{accepted, or_refusal}
use Rattle.base_ids.specs.Results.{ok_none, ok_value}
use Rattle.settings_values.specs.Definitions.{shards, Settings}
use Rattle.message_format.specs.declared.Contents.{Contents}
use Rattle.message_format.specs.declared.Form.TheVariants.{Report}
use Rattle.message_format.specs.Definitions.{contents_of, message_refusal, tag, word1, word2}
use Rattle.message_format.specs.Messages.{as_read}
use Rattle.message_reader.specs.Readings.{reading_under, contents_few}
use Rattle.report_views.specs.declared.Layout.{Layout}
use Rattle.report_views.specs.declared.Termination.{Termination}
use Rattle.report_views.specs.Definitions.{end_of, has_update, slot, report_of, mask_at, position_at, slot_ok}
use Rattle.report_views.specs.Shorthands.{view_of}
use Rattle.report_quick.specs.Accepts.{length_slot, WordsFit, accepts}
use Rattle.report_desk.specs.SlotsOf.{report_fits, slot_refused, slot_read}
use Rattle.report_views.specs.Numbers.{as_number}
use Rattle.report_desk.specs.Ends.{ends_of}
use Rattle.report_walk.specs.Seen.{PositionRecords}
use Rattle.report_walk.specs.Updates.{RecordsAre, update_seen, update-seen, goal_at, goal_is}
use Rattle.plan_seen.specs.Nodes.{word_of_pairs, words_of_pairs, words_back, slot_words, eligible, RenewedAt, renewed_not, renewed_other, SlotIs, EndsTold, EndTells, end_tells}
use Rattle.plan_seen.specs.Fold.{Stepped}

-- ---- words

pub word_even : (b : List ℕ) (k : ℕ) → k % 2 ≡ 0 → get_or b (k / 2) 0 % 4294967296 ≡ word_of_pairs b k
unfolding word_of_pairs
word_even b k e = rw (eq-eqb (k % 2) 0 e)

pub word_odd : (b : List ℕ) (k : ℕ) → (k % 2 ≡ 0 → ⊥) → get_or b (k / 2) 0 / 4294967296 ≡ word_of_pairs b k
unfolding word_of_pairs
word_odd b k e = rw (ne_eqb (k % 2) 0 e)

pub words_long : (b w : List ℕ) → w ≡ words_of_pairs b → length w ≡ 512
unfolding words_of_pairs
words_long b w e = ap (λ (x : List ℕ). length x) e ∙ length_tabulate 512 (word_of_pairs b)

pub slot_back : (d : List ℕ) (n : ℕ) (b : List ℕ) → SlotIs d n b → n < 32 → words_of_pairs b ≡ slot d n
slot_back d n b is l =
    ap words_of_pairs is.pairs ∙ words_back (slot d n) (length_slot d n is.whole l) (slot_words d n is.words is.whole l)

-- ---- a reading

module _ (σ w : List ℕ) (c : Contents) (e : Ok c ≡ as_read (reading_under Report σ w)) where
  pub read_contents : c ≡ contents_of w
  unfolding reading_under
  read_contents = ok_value _ _ c e ∙ rw (ok_none _ _ c e)

  pub read_few : c.len ≤ 127
  read_few = contents_few w c read_contents

-- ---- a shard

pub end_looked : (b body : List ℕ) (last s : ℕ) (p : Position) (x y : ℕ) → EndTells b body last s p x y → s < 16 → (made : Bool) → made ≡ true
    → update_seen b last s y ≡ (not made || has_update body last s p)
end_looked b body last s p x y told few made e = update-seen b body last s y few told.records ∙ rw (told.number, e)

pub shard_miss : (v : Layout) (t : Termination) (d : List ℕ) (n y s : ℕ) (hs ts : List ℕ) → has (mask_at v s) n ≡ false
    → RenewedAt (eligible v t d s n) n y s hs ts hs ts
unfolding eligible
shard_miss v t d n y s hs ts h = renewed_not n y s hs ts (eligible v t d s n) (and_fails_left _ (and_fails_left _ (and_fails_left _ h)))

-- what the test of a shard finds, where the node is a member of it
pub shard_told : (σ : List ℕ) (v : Layout) (t : Termination) (d : List ℕ) (n : ℕ) (b : List ℕ) (last : ℕ) (ends positions : List ℕ) (made r : Bool) (s : ℕ) → s < 16
    → ((body : List ℕ) (p : Position) → EndTells b body last s p (get_or ends s 0) (goal_at positions s) → r ≡ (not made || has_update body last s p))
    → EndsTold σ v t d n b last ends → made ≡ t.made → PositionRecords t.positions (shards σ) positions → s < shards σ → has (mask_at v s) n ≡ true
    → r ≡ eligible v t d s n
unfolding eligible
shard_told σ v t d n b last ends positions made r s few tells told et eg l member =
    let p = position_at t s in
    let t1 = end_tells σ v t d n b last ends told s few l member p (eg.fit s few) in
    let t2 : EndTells b (report_of d n).body last s p (get_or ends s 0) (goal_at positions s) =
    subst⁻¹ (λ (x : ℕ). EndTells b (report_of d n).body last s p (get_or ends s 0) x) (goal_is t.positions (shards σ) positions eg s few) t1 in
    tells (report_of d n).body p t2 ∙ rw (et, told.length_is, member, eq-eqb (view_of d n) v.number.0 told.kept)

pub renewed_same : (e : Bool) (n y z s : ℕ) (hs ts hs' ts' : List ℕ) → true ≡ e → y ≡ z → RenewedAt true n y s hs ts hs' ts' → RenewedAt e n z s hs ts hs' ts'
renewed_same e n y z s hs ts hs' ts' p q r =
    subst (λ (x : Bool). RenewedAt x n z s hs ts hs' ts') p (subst (λ (x : ℕ). RenewedAt true n x s hs ts hs' ts') q r)

-- ---- a node

pub ends_told : (σ : List ℕ) (v : Layout) (t : Termination) (d : List ℕ) (n : ℕ) (b : List ℕ) (c : Contents) (pairs ends : List ℕ) → Settings σ → SlotIs d n b → n < 32
    → slot_ok σ v t d n ≡ true → c ≡ report_of d n → c.view.0 ≡ v.number.0 → RecordsAre pairs c.body c.len → ends ≡ ends_of c.body c.len
    → EndsTold σ v t d n pairs c.len ends
unfolding ends_of
ends_told σ v t d n b c pairs ends right is l ok e view are ee =
    record {
      whole = is.whole;
      words = is.words;
      below = l;
      sound = ok;
      kept = sym (ap (λ (x : Contents). x.view.0) e) ∙ view;
      length_is = ap (λ (x : Contents). x.len) (sym e);
      records = subst (λ (x : Contents). RecordsAre pairs x.body c.len) e are;
      ends_are = λ s m h.
          ap (λ (x : List ℕ). get_or x s 0) ee ∙ get_d_tabulate 16 (λ j. as_number (end_of c.body j c.len)) s 0 (omega (arith, right.sizes.shards_to))
          ∙ ap (λ (x : Contents). as_number (end_of x.body s x.len)) e;
    }

-- one record more among the pairs of a body's records
pub pairs_more : (l body : List ℕ) (j x y : ℕ) → length l ≡ 256 → j < 127 → x % 4294967296 ≡ tag body j → x / 4294967296 ≡ word1 body j → y % 4294967296 ≡ word2 body j
    → RecordsAre l body j → RecordsAre (set (set l (2 * j + 2) x) (2 * j + 3) y) body (j + 1)
pairs_more l body j x y long few e f g are =
    record {
      tags = λ i m. ⊎_elim (λ q. at_front i q (λ z. tag body i ≡ z % 4294967296) (ap (tag body) q ∙ sym e)) (λ q. subst⁻¹ (λ (z : ℕ). tag body i ≡ z % 4294967296) (old (2 * i + 2) (λ h. q (omega arith)) (λ h. omega arith)) (are.tags i (omega (arith, q)))) (eq_or_ne i j);
      firsts = λ i m. ⊎_elim (λ q. at_front i q (λ z. word1 body i ≡ z / 4294967296) (ap (word1 body) q ∙ sym f)) (λ q. subst⁻¹ (λ (z : ℕ). word1 body i ≡ z / 4294967296) (old (2 * i + 2) (λ h. q (omega arith)) (λ h. omega arith)) (are.firsts i (omega (arith, q)))) (eq_or_ne i j);
      seconds = λ i m. ⊎_elim (λ q. at_back i q (λ z. word2 body i ≡ z % 4294967296) (ap (word2 body) q ∙ sym g)) (λ q. subst⁻¹ (λ (z : ℕ). word2 body i ≡ z % 4294967296) (old (2 * i + 3) (λ h. omega arith) (λ h. q (omega arith))) (are.seconds i (omega (arith, q)))) (eq_or_ne i j);
    }
  where
    new : List ℕ
    new = set (set l (2 * j + 2) x) (2 * j + 3) y

    old : (k : ℕ) → (k ≡ 2 * j + 2 → ⊥) → (k ≡ 2 * j + 3 → ⊥) → get_or new k 0 ≡ get_or l k 0
    old k p q = get_or-set_other (set l (2 * j + 2) x) (2 * j + 3) k y 0 q ∙ get_or-set_other l (2 * j + 2) k x 0 p

    front : get_or new (2 * j + 2) 0 ≡ x
    front = get_or-set_other (set l (2 * j + 2) x) (2 * j + 3) (2 * j + 2) y 0 (λ h. omega arith) ∙ get_or-set_same l (2 * j + 2) x 0 (omega arith)

    back : get_or new (2 * j + 3) 0 ≡ y
    back = get_or-set_same (set l (2 * j + 2) x) (2 * j + 3) y 0 (omega (arith, length-set l (2 * j + 2) x))

    at_front : (i : ℕ) → i ≡ j → (F : ℕ → Type 0) → F x → F (get_or new (2 * i + 2) 0)
    at_front i q F h = subst⁻¹ F (ap (λ (k : ℕ). get_or new (2 * k + 2) 0) q ∙ front) h

    at_back : (i : ℕ) → i ≡ j → (F : ℕ → Type 0) → F y → F (get_or new (2 * i + 3) 0)
    at_back i q F h = subst⁻¹ F (ap (λ (k : ℕ). get_or new (2 * k + 3) 0) q ∙ back) h

module _ (σ : List ℕ) (v : Layout) (t : Termination) (d : List ℕ) (n : ℕ) (b w : List ℕ) (right : Settings σ) (is : SlotIs d n b) (l : n < 32)
    (e : w ≡ words_of_pairs b) (hs ts : List ℕ) where
  words_are : w ≡ slot d n
  words_are = e ∙ slot_back d n b is l

  pub stepped_other : WordsFit σ v.number.0 w n → Stepped σ v t d n true hs ts hs ts
  unfolding report_of contents_of
  stepped_other fit =
      record {
        sound = sym (accepts σ v t d n right (length_slot d n is.whole l) (subst (λ (x : List ℕ). WordsFit σ v.number.0 x n) words_are fit));
        renewed = λ q.
            renewed_other v t d n (λ z.
            let first : get_or w 1 0 ≡ get_or (slot d n) 1 0 = ap (λ (x : List ℕ). get_or x 1 0) words_are in
            omega (arith, fit.head.earlier, first, z)) (shards σ) hs ts;
      }

  pub stepped_refused : (r : Result Contents Refusal) → r ≡ as_read (reading_under Report σ w) → ((c : Contents) → r ≡ Ok c → ⊥)
      → Stepped σ v t d n false hs ts hs ts
  unfolding reading_under or_refusal
  stepped_refused r read h =
      let bad : accepted (message_refusal Report σ w) ≡ false = no_true _ (λ g. h (contents_of w) (read ∙ rw g)) in
      record { sound = slot_refused σ v t d n (rw words_are at bad); renewed = λ q. clash q refl }

  module _ (c : Contents) (read : Ok c ≡ as_read (reading_under Report σ w)) where
    read_slot : Ok c ≡ as_read (reading_under Report σ (slot d n))
    read_slot = read ∙ ap (λ (x : List ℕ). as_read (reading_under Report σ x)) words_are

    pub fits_sound : (x : Bool) → report_fits σ v t c n ≡ x → slot_ok σ v t d n ≡ x
    fits_sound x f = sym (slot_read σ v t d n c read_slot) ∙ f

    pub stepped_unfit : report_fits σ v t c n ≡ false → Stepped σ v t d n false hs ts hs ts
    stepped_unfit f = record { sound = sym (fits_sound false f); renewed = λ q. clash q refl }

    pub contents_are : c ≡ report_of d n
    unfolding report_of
    contents_are = read_contents σ (slot d n) c read_slot

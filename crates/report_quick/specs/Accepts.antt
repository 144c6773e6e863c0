-- Records that stand as the acceptance finds them pass rows 8, 9, 16, 17 and 11, and the slot is sound.
use Prim.Native.Nat.{ℕ, zero, suc, ◌+◌, ◌*◌, ◌-◌, ◌/◌, ◌%◌, ◌^◌, ◌<◌, ◌≤◌}
use Rattle.std.specs.Prelude.{Bool, false, not, ◌&&◌, ◌||◌, List, ◌⊎◌, ◌≡◌, ltb, length, get_or}
use Rattle.std.proofs.Math.Bool.{true}
use Rattle.std.proofs.Common.{inl, inr, sym, ◌∙◌, pow_pos}
use Rattle.std.proofs.Math.Logic.{⊎_elim}
use Rattle.std.proofs.Math.Path.{refl, ap, subst}
use native.Mathlib.Omega.{arith}
use Rattle.std.proofs.Math.Dec.{eqb}
use borrow.Author.Tests.{eqb-true, eq-eqb, ne_eqb, lt-ltb, le-ltb, le-leb, lt-leb}
use Rattle.base_laws.specs.Bools.{either, and_both, and_fails_left, and_fails_right, or_left, or_right, not_of_false, lt_or_le}
use Rattle.base_laws.specs.Definitions.{all_below, has, subset}
use Rattle.base_laws.specs.Below.{all_of}
use Rattle.base_laws.specs.Tables.{length_part}
use Rattle.base_laws.specs.Masks.{subset_of}
use Rattle.settings_values.specs.Definitions.{shards, Settings}
use Rattle.base_ids.specs.declared.Refusal.{Refusal}
use Rattle.base_ids.specs.Definitions.{none}
use Rattle.message_format.specs.declared.Form.TheVariants.{Report}
use Rattle.message_format.specs.Definitions.{next, following, row5, row8, tag, word1, word2, kind, record_shard, precedes, shards_where, shards_of, members_of, is_position, view_fits, kind_ok, plain, kind_at, shard_at, surplus, sequence_at, every_shard, complete, row10, legal, row11_at, body_of, contents_of, message_refusal}
use Rattle.message_format.specs.Shorthands.{records}
use Rattle.message_format.specs.Rising.{precedes_tag, precedes_view}
use Rattle.message_format.specs.Passed.{HeadPasses, RecordsPass, MessagePasses, message_none}
use Rattle.message_format.specs.Alike.{row10_same}
use Rattle.message_format.specs.Straight.{straight_following, straight_row8, straight_tag, straight_word1, straight_word2}
use Rattle.message_format.specs.Laws.{where_at}
use Rattle.report_views.specs.declared.Layout.{Layout}
use Rattle.report_views.specs.declared.Termination.{Termination}
use Rattle.report_views.specs.Definitions.{slot, report_of, terminated_at, mask_at, position_at, row12, row13, term_kept, same_view, same_position, same_termination, slot_ok}
use Rattle.report_quick.specs.Told.{MemberTold, PositionTold, RunTold, RunsTold, HeadTold, mask_told, MasksFit, EndFits}

-- the records before the runs: members for each shard, then a position for each or none; m of them
pub record FrontTold (w : List ℕ) (count view m : ℕ) : Type 0 where
  pub members : (s : ℕ) → s < count → MemberTold w s
  pub positions : (m ≡ count) ⊎ ((m ≡ count + count) × ((s : ℕ) → s < count → PositionTold w view (count + s) s))

-- a record as the rows ask for it: tag, word 1 and word 2
pub record RecordTold (count view a b c : ℕ) : Type 0 where
  pub known : (a / 256 ≡ 1) ⊎ ((a / 256 ≡ 2) ⊎ (a / 256 ≡ 3))
  pub below : a % 256 < count
  pub zero : a / 256 ≡ 1 → c ≡ 0
  pub at : a / 256 ≡ 2 → (b ≤ view) × (is_position b c ≡ true)
  pub run : a / 256 ≡ 3 → (1 ≤ b) × (1 ≤ c) × (b ≤ view)

-- no record is picked
where_none : (f : ℕ → Bool) (b : List ℕ) (n : ℕ) → ((j : ℕ) → j < n → f j ≡ false) → shards_where f b n ≡ 0
unfolding shards_where
where_none f b zero h = refl
where_none f b (suc n) h = rw (h n (omega arith)) (where_none f b n (λ j l. h j (omega arith)))

-- w ones
full-less : (w : ℕ) → 2 ^ w - 1 < 2 ^ w
full-less w = omega (arith, pow_pos w)

module _ {count view a b c : ℕ} (t : RecordTold count view a b c) where
  told_kind : (kind_ok Report (a / 256) && plain (a / 256) c) ≡ true
  unfolding kind_ok plain
  told_kind =
      ⊎_elim
      (λ e. subst (λ (k : ℕ). (kind_ok Report k && plain k c) ≡ true) (sym e) (subst (λ (x : ℕ). (kind_ok Report 1 && plain 1 x) ≡ true) (sym (t.zero e)) refl))
      (λ k. ⊎_elim (λ e. subst (λ (k : ℕ). (kind_ok Report k && plain k c) ≡ true) (sym e) refl) (λ e. subst (λ (k : ℕ). (kind_ok Report k && plain k c) ≡ true) (sym e) refl) k)
      t.known

  told_legal : (members : ℕ) → legal Report view members (a / 256) b c ≡ true
  unfolding legal view_fits
  told_legal members =
      ⊎_elim (λ e. subst (λ (k : ℕ). legal Report view members k b c ≡ true) (sym e) refl)
      (λ k. ⊎_elim
      (λ e. subst (λ (k : ℕ). legal Report view members k b c ≡ true) (sym e) (and_both (t.at e).1 (le-leb b view (t.at e).0)))
      (λ e. subst (λ (k : ℕ). legal Report view members k b c ≡ true) (sym e)
      (and_both (and_both (le-leb 1 b (t.run e).0) (le-leb 1 c (t.run e).1)) (le-leb b view (t.run e).2)))
      k)
      t.known

  told_low : a / 256 < 4
  told_low = ⊎_elim (λ e. omega arith) (λ k. ⊎_elim (λ e. omega arith) (λ e. omega arith) k) t.known

module _ (σ : List ℕ) (w : List ℕ) (view m n : ℕ) (right : Settings σ) (f : FrontTold w (shards σ) view m) (r : RunsTold w m (shards σ) view n) where
  -- the number of shards
  abbrev many : ℕ
  many = shards σ

  few : many ≤ 16
  few = right.sizes.shards_to

  low : many ≤ m
  low = ⊎_elim (λ e. omega arith) (λ e. omega (arith, e.0)) f.positions

  -- the three zones
  zone : {A : Type 0} (j : ℕ) → j < n → (j < many → MemberTold w j → A) → ((s : ℕ) → j ≡ many + s → j < m → s < many → PositionTold w view j s → A) → (m ≤ j → RunTold w many view j → A) → A
  zone j l one two three =
      ⊎_elim (λ h. one h (f.members j h))
      (λ h.
      ⊎_elim
      (λ k. ⊎_elim (λ e. absurd (omega arith))
      (λ e. let i : j ≡ many + (j - many) = omega arith in
      two (j - many) i k (omega (arith, e.0)) (subst (λ (x : ℕ). PositionTold w view x (j - many)) (sym i) (e.1 (j - many) (omega (arith, e.0)))))
      f.positions)
      (λ k. three k (r.each j k l))
      (lt_or_le j m))
      (lt_or_le j many)

  pub on : (i : ℕ) → i < n → next w i ≡ i + 1
  on i l = zone i l (λ h t. t.linked) (λ s e q h t. t.linked) (λ h t. t.linked)

  pub tag_is : (j : ℕ) → j < n → tag (body_of w) j ≡ get_or w (4 * j + 4) 0
  tag_is j l = straight_tag w n on r.end r.few j l

  pub word1_is : (j : ℕ) → j < n → word1 (body_of w) j ≡ get_or w (4 * j + 5) 0
  word1_is j l = straight_word1 w n on r.end r.few j l

  pub word2_is : (j : ℕ) → j < n → word2 (body_of w) j ≡ get_or w (4 * j + 6) 0
  word2_is j l = straight_word2 w n on r.end r.few j l

  pub front_following : following w ≡ n
  front_following = straight_following w n on r.end r.few

  pub front_row8 : n < records w → row8 w ≡ true
  front_row8 e = straight_row8 w n on r.end r.few e

  told : (j : ℕ) → j < n → RecordTold many view (tag (body_of w) j) (word1 (body_of w) j) (word2 (body_of w) j)
  told j l =
      zone j l
      (λ h t. record {
        known = inl (omega (arith, tag_is j l, t.tagged));
        below = omega (arith, tag_is j l, t.tagged, few);
        zero = λ e. word2_is j l ∙ t.plain;
        at = λ e. absurd (omega (arith, tag_is j l, t.tagged, few));
        run = λ e. absurd (omega (arith, tag_is j l, t.tagged, few));
      })
      (λ s i q h t. record {
        known = inr (inl (omega (arith, tag_is j l, t.tagged, few)));
        below = omega (arith, tag_is j l, t.tagged, few);
        zero = λ e. absurd (omega (arith, tag_is j l, t.tagged, few));
        at = λ e. (omega (arith, word1_is j l, t.view_to), subst (λ (x : ℕ). is_position x (word2 (body_of w) j) ≡ true) (sym (word1_is j l)) (subst (λ (x : ℕ). is_position (get_or w (4 * j + 5) 0) x ≡ true) (sym (word2_is j l)) t.placed));
        run = λ e. absurd (omega (arith, tag_is j l, t.tagged, few));
      })
      (λ h t. record {
        known = inr (inr (omega (arith, tag_is j l, t.fits.low, t.fits.high, few)));
        below = omega (arith, tag_is j l, t.fits.low, t.fits.high, few);
        zero = λ e. absurd (omega (arith, tag_is j l, t.fits.low, t.fits.high, few));
        at = λ e. absurd (omega (arith, tag_is j l, t.fits.low, t.fits.high, few));
        run = λ e. (omega (arith, word1_is j l, t.fits.view_from), omega (arith, word2_is j l, t.fits.some), omega (arith, word1_is j l, t.fits.view_to));
      })

  pub front_kinds : all_below n (kind_at Report (body_of w)) ≡ true
  unfolding kind_at
  front_kinds = all_of n (kind_at Report (body_of w)) (λ j l. told_kind (told j l))

  pub front_shards : all_below n (shard_at σ (body_of w)) ≡ true
  unfolding shard_at
  front_shards = all_of n (shard_at σ (body_of w)) (λ j l. lt-ltb (record_shard (body_of w) j) many (told j l).below)

  pub front_positions : (members : ℕ) → all_below n (row11_at Report view members (body_of w)) ≡ true
  unfolding row11_at
  front_positions members = all_of n (row11_at Report view members (body_of w)) (λ j l. told_legal (told j l) members)

  -- record j + 1 of the body follows record j
  follows : (j : ℕ) → j + 1 < n → precedes (body_of w) j (j + 1) ≡ true
  follows j l =
      zone (j + 1) l
      (λ h t. precedes_tag (body_of w) j (j + 1) (omega (arith, tag_is j (omega arith), tag_is (j + 1) l, t.tagged, (f.members j (omega arith)).tagged)))
      (λ s i x h t. precedes_tag (body_of w) j (j + 1) (zone j (omega arith)
      (λ k u. omega (arith, tag_is j (omega arith), tag_is (j + 1) l, t.tagged, u.tagged, few))
      (λ q e y k u. omega (arith, tag_is j (omega arith), tag_is (j + 1) l, t.tagged, u.tagged))
      (λ k u. absurd (omega arith))))
      (λ h t. ⊎_elim
      (λ k. precedes_tag (body_of w) j (j + 1) (omega (arith, tag_is j (omega arith), tag_is (j + 1) l, before)))
      (λ k. precedes_view (body_of w) j (j + 1) (tag_is j (omega arith) ∙ (before ∙ (k.0 ∙ sym (tag_is (j + 1) l))))
      (omega (arith, tag_is (j + 1) l, t.fits.low, t.fits.high, few))
      (omega (arith, word1_is j (omega arith), word1_is (j + 1) l, k.1, since)))
      t.fits.rises)
    where
      before : get_or w (4 * j + 4) 0 ≡ get_or w (4 * (j + 1)) 0
      before = ap (λ (k : ℕ). get_or w k 0) (omega arith)

      since : get_or w (4 * j + 5) 0 ≡ get_or w (4 * (j + 1) + 1) 0
      since = ap (λ (k : ℕ). get_or w k 0) (omega arith)

  pub front_sequence : (node : ℕ) → all_below n (sequence_at node (body_of w)) ≡ true
  unfolding sequence_at surplus
  front_sequence node =
      all_of n (sequence_at node (body_of w)) (λ j l.
      and_both (placed j l) (not_of_false (and_fails_left _ (lt-leb 4 (kind (body_of w) j) (told_low (told j l))))))
    where
      placed : (j : ℕ) → j < n → (eqb j 0 || precedes (body_of w) (j - 1) j) ≡ true
      placed zero l = refl
      placed (suc j) l =
          let e : suc j ≡ j + 1 = omega arith in
          let d : j ≡ suc j - 1 = omega arith in
          or_right (eqb (suc j) 0) (subst (λ (x : ℕ). precedes (body_of w) x (suc j) ≡ true) d (subst (λ (x : ℕ). precedes (body_of w) j x ≡ true) (sym e) (follows j (omega arith))))

  -- every shard has a record of kind k
  every : (k base : ℕ) → ((s : ℕ) → s < many → (base + s < n) × (tag (body_of w) (base + s) ≡ k * 256 + s)) → subset (every_shard σ) (shards_of k (body_of w) n) ≡ true
  every k base h =
      subset_of many (every_shard σ) (shards_of k (body_of w) n) (full-less many) (λ s l p.
      let e = h s l in
      subst (λ (x : ℕ). has (shards_of k (body_of w) n) x ≡ true) (let g : record_shard (body_of w) (base + s) ≡ s = omega (arith, e.1, few) in g)
      (where_at (λ j. eqb (kind (body_of w) j) k) (body_of w) n (base + s) e.0 (eq-eqb (kind (body_of w) (base + s)) k (omega (arith, e.1, few)))))

  within_all : m ≤ n
  within_all = r.from

  pub front_complete : (node : ℕ) → complete Report σ node (body_of w) n ≡ true
  unfolding complete
  front_complete node =
      and_both (every 1 0 (λ s l. (omega (arith, low, within_all), ap (tag (body_of w)) (omega arith) ∙ (tag_is s (omega (arith, low, within_all)) ∙ ((f.members s l).tagged ∙ omega arith)))))
      (⊎_elim (λ e. or_left (subset (every_shard σ) (shards_of 2 (body_of w) n)) (eq-eqb (shards_of 2 (body_of w) n) 0 (where_none (λ j. eqb (kind (body_of w) j) 2) (body_of w) n (λ j l. ne_eqb (kind (body_of w) j) 2 (none e j l)))))
      (λ e. or_right (eqb (shards_of 2 (body_of w) n) 0) (every 2 many (λ s l. (omega (arith, e.0, within_all), tag_is (many + s) (omega (arith, e.0, within_all)) ∙ ((e.1 s l).tagged ∙ omega arith)))))
      f.positions)
    where
      none : m ≡ many → (j : ℕ) → j < n → kind (body_of w) j ≡ 2 → ⊥
      none e j l k =
          zone j l (λ h t. omega (arith, tag_is j l, t.tagged, few)) (λ s i q h t. omega arith)
          (λ h t. omega (arith, tag_is j l, t.fits.low, t.fits.high, few))

  -- record many is of kind 2 only where positions stand
  no_end : m ≡ many → (ltb many n && eqb (kind (body_of w) many) 2) ≡ false
  no_end e =
      ⊎_elim (λ l. and_fails_right (ltb many n) (ne_eqb (kind (body_of w) many) 2 (λ k. let t = r.each many (omega arith) l in omega (arith, tag_is many l, t.fits.low, t.fits.high, few))))
      (λ l. and_fails_left _ (le-ltb many n l)) (lt_or_le many n)

  front_mask : (s : ℕ) → s < many → members_of (body_of w) s ≡ mask_told w s
  front_mask s l = word1_is s (omega (arith, low, within_all))

  -- rows 5 to 11
  pub front_passes : row5 w ≡ true → n < records w → HeadPasses Report σ (get_or w 0 0) (get_or w 1 0) (get_or w 2 0) → get_or w 1 0 ≡ view → row10 σ (get_or w 2 0) (mask_told w) ≡ true → MessagePasses Report σ w
  front_passes e whole h i k =
      record {
        words_pass = e;
        head_passes = h;
        chain_passes = front_row8 whole;
        records_pass = subst (λ (j : ℕ). RecordsPass Report σ (get_or w 0 0) (get_or w 1 0) (get_or w 2 0) (body_of w) j) (sym front_following) (record {
          kinds_pass = front_kinds;
          shards_pass = front_shards;
          sequence_passes = front_sequence (get_or w 0 0);
          complete_passes = front_complete (get_or w 0 0);
          masks-pass = row10_same σ (get_or w 2 0) (members_of (body_of w)) (mask_told w) front_mask ∙ k;
          positions-pass = subst (λ (x : ℕ). all_below n (row11_at Report x (get_or w 2 0) (body_of w)) ≡ true) (sym i) (front_positions (get_or w 2 0));
        });
      }

  -- the report is of the kept view and has a termination
  module _ (v : Layout) (t : Termination) (i : get_or w 1 0 ≡ view) where
    -- rows 12 and 13, and a termination that is kept
    pub front_row12 : MasksFit σ v w → row12 σ v (contents_of w) ≡ true
    unfolding row12 same_view contents_of
    front_row12 k =
        ⊎_elim
        (λ e. or_right (not (eqb (get_or w 1 0) v.number.0)) (let d = eqb-true (get_or w 1 0) v.number.0 e in
        and_both (eq-eqb (get_or w 2 0) v.members (k.members d)) (all_of many (λ s. eqb (members_of (body_of w) s) (mask_at v s)) (λ s l. eq-eqb (members_of (body_of w) s) (mask_at v s) (front_mask s l ∙ k.masks d s l)))))
        (λ e. or_left _ (not_of_false e))
        (either (eqb (get_or w 1 0) v.number.0))

    -- a report of the kept view with a termination has the kept one
    unfoldable pub Ending : Type 0
    Ending = (m ≡ many) ⊎ ((m ≡ many + many) × EndFits σ v t w)

    pub front_row13 : Ending → row13 σ v t (contents_of w) ≡ true
    unfolding row13 same_termination contents_of Ending
    front_row13 (inl e) =
        or_left _ (not_of_false (and_fails_left t.made (and_fails_right (eqb (get_or w 1 0) v.number.0) (subst (λ (k : ℕ). (ltb many k && eqb (kind (body_of w) many) 2) ≡ false) (sym front_following) (no_end e)))))
    front_row13 (inr e) =
        ⊎_elim
        (λ d. or_right (not (eqb (get_or w 1 0) v.number.0 && (ltb many (following w) && eqb (kind (body_of w) many) 2) && t.made)) (all_of many (λ s. same_position (terminated_at σ (contents_of w) s) (position_at t s)) (λ s l.
        let q = e.1.positions (eqb-true (get_or w 1 0) v.number.0 d) s l in
        and_both (eq-eqb _ _ (word1_is (many + s) (omega (arith, e.0, within_all)) ∙ q.view)) (eq-eqb _ _ (word2_is (many + s) (omega (arith, e.0, within_all)) ∙ q.k)))))
        (λ d. or_left _ (not_of_false (and_fails_left t.made (and_fails_left _ d))))
        (either (eqb (get_or w 1 0) v.number.0))

    pub front_kept : Ending → term_kept σ v t (contents_of w) ≡ true
    unfolding term_kept contents_of Ending
    front_kept (inl e) =
        or_left t.made (not_of_false (and_fails_right (eqb (get_or w 1 0) v.number.0) (subst (λ (k : ℕ). (ltb many k && eqb (kind (body_of w) many) 2) ≡ false) (sym front_following) (no_end e))))
    front_kept (inr e) =
        ⊎_elim (λ d. or_right (not (eqb (get_or w 1 0) v.number.0 && (ltb many (following w) && eqb (kind (body_of w) many) 2))) (e.1.made (eqb-true (get_or w 1 0) v.number.0 d))) (λ d. or_left t.made (not_of_false (and_fails_left _ d)))
        (either (eqb (get_or w 1 0) v.number.0))

-- row 5 by the length
pub few_words : (w : List ℕ) → 1 ≤ length w → length w ≤ 512 → length w % 4 ≡ 0 → row5 w ≡ true
unfolding row5
few_words w h i j = and_both (and_both (le-leb 1 (length w) h) (le-leb (length w) 512 i)) (eq-eqb (length w % 4) 0 j)

-- a slot of a desk is 512 words long
pub length_slot : (d : List ℕ) (n : ℕ) → length d ≡ 16384 → n < 32 → length (slot d n) ≡ 512
unfolding slot
length_slot d n whole below = length_part (512 * n) (512 * n + 512) d (omega arith) ∙ omega arith

-- what stands after the masks: m records before the runs, n in all
pub record RestFits (count : ℕ) (w : List ℕ) : Type 0 where
  pub front : ℕ
  pub last : ℕ
  pub positions : (front ≡ count) ⊎ ((front ≡ count + count) × ((s : ℕ) → s < count → PositionTold w (get_or w 1 0) (count + s) s))
  pub runs : RunsTold w front count (get_or w 1 0) last

-- all of it
pub record WordsFit (σ : List ℕ) (number : ℕ) (w : List ℕ) (n : ℕ) : Type 0 where
  pub head : HeadTold σ number w n
  pub members : (s : ℕ) → s < shards σ → MemberTold w s
  pub masks : row10 σ (get_or w 2 0) (mask_told w) ≡ true
  pub rest : RestFits (shards σ) w

-- the slot of node j is sound
pub accepts : (σ : List ℕ) (v : Layout) (t : Termination) (d : List ℕ) (j : ℕ) → Settings σ → length (slot d j) ≡ 512 → WordsFit σ v.number.0 (slot d j) j
    → slot_ok σ v t d j ≡ true
unfolding slot_ok report_of Ending contents_of
accepts σ v t d j right long f =
    and_both (and_both (and_both (and_both (and_both
    (eq-eqb _ 0 (ap (λ (x : Refusal). x.code) pass))
    (eq-eqb _ j h.own))
    (le-leb _ v.number.0 (omega (arith, h.earlier))))
    (front_row12 σ w view m n right p r v t refl (record { sound = f.masks; members = λ e. absurd (other e); masks = λ e. absurd (other e) })))
    (front_row13 σ w view m n right p r v t refl ending))
    (front_kept σ w view m n right p r v t refl ending)
  where
    w : List ℕ
    w = slot d j

    m : ℕ
    m = f.rest.front

    n : ℕ
    n = f.rest.last

    view : ℕ
    view = get_or w 1 0

    h : HeadTold σ v.number.0 w j
    h = f.head

    p : FrontTold w (shards σ) view m
    p = record { members = f.members; positions = f.rest.positions }

    r : RunsTold w m (shards σ) view n
    r = f.rest.runs

    pass : message_refusal Report σ w ≡ none
    pass =
        message_none Report σ w
        (front_passes σ w view m n right p r (few_words w (omega arith) (omega arith) (omega arith)) (omega (arith, r.few))
        (record { node_passes = h.known; view_passes = h.seen }) refl f.masks)

    other : get_or w 1 0 ≡ v.number.0 → ⊥
    other e = omega (arith, h.earlier)

    ending : Ending σ w view m n right p r v t refl
    ending = ⊎_elim (λ e. inl e) (λ e. inr (e.0, record { made = λ d. absurd (other d); positions = λ d. absurd (other d) })) f.rest.positions

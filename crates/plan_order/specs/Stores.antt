-- An order's records stored one after another: each turn of a loop over the shards stores a record, or none where the node does
-- not carry the shard. The four loops, from a body of zeros, make the body of the order.
use Rattle.std.specs.Prelude.{ℕ, zero, suc, ◌+◌, ◌*◌, ◌/◌, ◌%◌, ◌<◌, ◌≤◌, Bool, true, false, List, ◌⊎◌, ◌≡◌, refl, ltb, length, set, replicate}
use native.Mathlib.Omega.{arith}
use Rattle.std.proofs.Common.{add-zero, inl, inr, ap, ◌∙◌, lt-ltb, le-ltb}
use Rattle.std.proofs.Math.Bool.{cond}
use Rattle.std.proofs.Math.Logic.{⊎_elim}
use Rattle.std.proofs.Math.Path.{sym, ap₂}
use Rattle.std.proofs.Math.ListN.{get_or, length-replicate}
use Rattle.std.proofs.lemmas.List.{get_or-replicate}
use Rattle.base_laws.specs.Bools.{either, lt_or_le}
use Rattle.base_laws.specs.Definitions.{count_below}
use Rattle.base_laws.specs.Below.{count_zero, count_suc, count_hit, count_miss, count_le}
use Rattle.base_laws.specs.Loops.{turns, turns_none, turned, turns_hold}
use Rattle.base_laws.specs.Tables.{filled, filled_none, filled_more, tabulate_ext, length_filled, get_or_filled, get_or_filled_rest}
use Rattle.settings_values.specs.Definitions.{shards}
use Rattle.message_format.specs.declared.Contents.{Contents}
use Rattle.report_views.specs.declared.Layout.{Layout}
use Rattle.report_views.specs.declared.Plan.{Plan}
use Rattle.report_views.specs.Definitions.{mask_at, holder_at, target_at}
use Rattle.plan_order.specs.Definitions.{carries, carried_below, own, cut_of, triple, order_record, order_len, order_word, order_body, order_contents}
use Rattle.plan_order.specs.Orders.{cuts_of}
use Rattle.plan_order.specs.CutTables.{cut_view, cut_k}
use Rattle.plan_order.specs.Recorded.{members_record, target_record, holder-record, cut-record, len_few}

-- a body in which record j has the words x, y and z
abbrev pub words_stored : List ℕ → ℕ → ℕ → ℕ → ℕ → List ℕ
words_stored b j x y z = set (set (set b (3 * j) x) (3 * j + 1) y) (3 * j + 2) z

-- the members of shard s
abbrev pub store_members : Layout → ℕ → List ℕ → List ℕ
store_members v s b = words_stored b s (256 + s) (mask_at v s) 0

-- the target of shard s, of the given number of shards
abbrev pub store_target : ℕ → Plan → ℕ → List ℕ → List ℕ
store_target count p s b = words_stored b (count + s) (512 + s) (target_at p s).view.0 (target_at p s).k

-- the record x s, y s, z s for shard s where f holds of it; these records begin at `from`
abbrev pub store_where : ℕ → (ℕ → Bool) → (ℕ → ℕ) → (ℕ → ℕ) → (ℕ → ℕ) → ℕ → List ℕ → List ℕ
store_where from f x y z s b = cond (f s) (words_stored b (from + count_below s f) (x s) (y s) (z s)) b

-- the holder of shard s
abbrev pub store_holder : ℕ → Plan → ℕ → ℕ → List ℕ → List ℕ
store_holder from p n = store_where from (carries p n) (λ s. 1024 + s) (λ s. holder_at p s) (λ s. 0)

-- the cut of shard s
abbrev pub store_cut : ℕ → Plan → List ℕ → ℕ → ℕ → List ℕ → List ℕ
store_cut from p d n = store_where from (carries p n) (λ s. 1280 + s) (λ s. (cut_of p d n s).view.0) (λ s. (cut_of p d n s).k)

-- the cut of shard s that stands in a table, where f holds of it
abbrev pub store_tabled : ℕ → (ℕ → Bool) → List ℕ → ℕ → List ℕ → List ℕ
store_tabled from f cuts = store_where from f (λ s. 1280 + s) (λ s. get_or cuts (2 * s) 0) (λ s. get_or cuts (2 * s + 1) 0)

-- ---- a loop over the shards that stores a record for each of which f holds

-- s of the shards are done, and record j is the next
pub record Storing (from : ℕ) (f : ℕ → Bool) (g : ℕ → List ℕ → List ℕ) (count : ℕ) (b₀ b : List ℕ) (j s : ℕ) : Type 0 where
  pub many : count ≤ 16
  pub done : s ≤ count
  pub next : j ≡ from + count_below s f
  pub so_far : b ≡ turns s g b₀

pub storing_start : (from : ℕ) (f : ℕ → Bool) (g : ℕ → List ℕ → List ℕ) (count : ℕ) (b : List ℕ) → count ≤ 16
    → Storing from f g count b b from 0
storing_start from f g count b l =
    record { many = l; done = omega arith; next = omega (arith, count_zero f); so_far = sym (turns_none g b) }

module _ {from : ℕ} {f : ℕ → Bool} {g : ℕ → List ℕ → List ℕ} {count : ℕ} {b₀ b : List ℕ} {j s : ℕ} (i : Storing from f g count b₀ b j s) where
  -- there is room
  pub storing_room : s < count → j < from + 16
  storing_room l = omega (arith, i.next, i.many, count_le s f)

  pub storing_end : count ≤ s → (j ≡ from + count_below count f) × (b ≡ turns count g b₀)
  storing_end l =
      let e : s ≡ count = omega (arith, i.done) in
      (i.next ∙ ap (λ (k : ℕ). from + count_below k f) e, i.so_far ∙ ap (λ (k : ℕ). turns k g b₀) e)

  -- a turn for a shard of which f holds, and for one of which it does not
  pub storing_hit : (m : List ℕ) (k : ℕ) → s < count → f s ≡ true → m ≡ g s b → k ≡ j + 1
      → Storing from f g count b₀ m k (s + 1)
  storing_hit m k l c d e =
      record {
        many = i.many;
        done = omega arith;
        next = omega (arith, i.next, count_hit s f c);
        so_far = turned s g b₀ b m i.so_far d;
      }

  pub storing_miss : (m : List ℕ) (k : ℕ) → s < count → f s ≡ false → m ≡ g s b → k ≡ j
      → Storing from f g count b₀ m k (s + 1)
  storing_miss m k l c d e =
      record {
        many = i.many;
        done = omega arith;
        next = omega (arith, i.next, count_miss s f c);
        so_far = turned s g b₀ b m i.so_far d;
      }

-- what such turns make of the list
module _ (from : ℕ) (f : ℕ → Bool) (s x y z : ℕ) (b m : List ℕ) where
  pub record_hit : f s ≡ true → (j : ℕ) → j ≡ from + count_below s f → m ≡ words_stored b j x y z
      → m ≡ cond (f s) (words_stored b (from + count_below s f) x y z) b
  record_hit c j e d = rw c (d ∙ ap (λ (i : ℕ). words_stored b i x y z) e)

  pub record_miss : f s ≡ false → m ≡ b → m ≡ cond (f s) (words_stored b (from + count_below s f) x y z) b
  record_miss c d = rw c d

module _ (f : ℕ → ℕ) (z : List ℕ) where
  -- one word more
  word_stored : (i j v : ℕ) → i < length z → j ≡ i + 1 → v ≡ f i → set (filled i f z) i v ≡ filled j f z
  word_stored i j v h next same =
      ap (λ (x : ℕ). set (filled i f z) i x) same ∙ filled_more i f z h ∙ ap (λ (k : ℕ). filled k f z) (sym next)

  -- one record more
  record-stored : (j k x y w : ℕ) → 3 * j + 2 < length z → k ≡ j + 1 → x ≡ f (3 * j) → y ≡ f (3 * j + 1) → w ≡ f (3 * j + 2)
      → words_stored (filled (3 * j) f z) j x y w ≡ filled (3 * k) f z
  record-stored j k x y w h next d e g =
      ap (λ (b : List ℕ). set (set b (3 * j + 1) y) (3 * j + 2) w) (word_stored (3 * j) (3 * j + 1) x (omega arith) refl d)
      ∙ ap (λ (b : List ℕ). set b (3 * j + 2) w) (word_stored (3 * j + 1) (3 * j + 2) y (omega arith) (omega arith) e)
      ∙ word_stored (3 * j + 2) (3 * k) w h (omega arith) g

-- turns that are the same
turns_same : (n : ℕ) (g h : ℕ → List ℕ → List ℕ) (b : List ℕ) → ((s : ℕ) → s < n → (y : List ℕ) → g s y ≡ h s y)
    → turns n g b ≡ turns n h b
unfolding turns
turns_same zero g h b e = refl
turns_same (suc n) g h b e = e n (omega arith) (turns n g b) ∙ ap (h n) (turns_same n g h b (λ s l. e s (omega arith)))

-- ---- the order of node n

module _ (σ : List ℕ) (p : Plan) (d : List ℕ) (n : ℕ) (few : shards σ ≤ 16) where
  -- a body whose first j records are the order's, with zeros after them
  unfoldable pub order_so_far : ℕ → List ℕ
  order_so_far j = filled (3 * j) (order_word σ p d n) (replicate 381 0)

  pub ordered_none : replicate 381 0 ≡ order_so_far 0
  unfolding order_so_far
  ordered_none = sym (filled_none (order_word σ p d n) (replicate 381 0))

  -- record j of the order, stored
  ordered_more : (j k x y w : ℕ) → j < 127 → k ≡ j + 1 → ((part : ℕ) → order_record σ p d n j part ≡ triple x y w part)
      → words_stored (order_so_far j) j x y w ≡ order_so_far k
  unfolding order_so_far
  ordered_more j k x y w l next h =
      record-stored (order_word σ p d n) (replicate 381 0) j k x y w (omega (arith, length-replicate {A = ℕ} 381 0)) next (first (h 0)) (other 1 y (omega arith) (h 1)) (other 2 w (omega arith) (h 2))
    where
      other : (part v : ℕ) → part < 3 → order_record σ p d n j part ≡ v → v ≡ order_word σ p d n (3 * j + part)
      other part v m e =
          let q : (3 * j + part) / 3 ≡ j = omega arith in
          let r : (3 * j + part) % 3 ≡ part = omega arith in
          sym (ap₂ (order_record σ p d n) q r ∙ e)

      first : order_record σ p d n j 0 ≡ x → x ≡ order_word σ p d n (3 * j)
      first e =
          let q : 3 * j / 3 ≡ j = omega arith in
          let r : 3 * j % 3 ≡ 0 = omega arith in
          sym (ap₂ (order_record σ p d n) q r ∙ e)

  -- a loop that stores records of the order
  ordered_turns : (at : ℕ → ℕ) (g : ℕ → List ℕ → List ℕ) → ((s : ℕ) → s < shards σ → g s (order_so_far (at s)) ≡ order_so_far (at (suc s)))
      → turns (shards σ) g (order_so_far (at 0)) ≡ order_so_far (at (shards σ))
  ordered_turns at g h = turns_hold (λ s. order_so_far (at s)) g (shards σ) h

  abbrev S : ℕ
  S = shards σ

  pub members_stored : turns S (store_members p.layout) (order_so_far 0) ≡ order_so_far S
  members_stored =
      ordered_turns (λ s. s) (store_members p.layout) (λ s l.
      ordered_more s (suc s) (256 + s) (mask_at p.layout s) 0 (omega arith) (omega arith) (λ part. members_record σ p d n s part l))

  pub targets_stored : turns S (store_target S p) (order_so_far S) ≡ order_so_far (2 * S)
  targets_stored =
      ap (λ (j : ℕ). turns S (store_target S p) (order_so_far j)) (let e : S ≡ S + 0 = omega arith in e)
      ∙ ordered_turns (λ s. S + s) (store_target S p) (λ s l.
      ordered_more (S + s) (S + suc s) (512 + s) _ _ (omega arith) (omega arith) (λ part. target_record σ p d n s part l))
      ∙ ap order_so_far (let e : S + S ≡ 2 * S = omega arith in e)

  -- a loop that stores a record for each shard that the node carries, from record `from` up
  carried_stored : (from : ℕ) (x y w : ℕ → ℕ) → from ≤ 64
      → ((s part : ℕ) → s < S → carries p n s ≡ true → order_record σ p d n (from + carried_below p n s) part ≡ triple (x s) (y s) (w s) part)
      → turns S (λ s b. cond (carries p n s) (words_stored b (from + carried_below p n s) (x s) (y s) (w s)) b) (order_so_far from) ≡ order_so_far (from + own σ p n)
  carried_stored from x y w bound h =
      ap (λ (j : ℕ). turns S g (order_so_far j)) (let e : from ≡ from + carried_below p n 0 = omega (arith, count_zero (carries p n)) in e)
      ∙ ordered_turns (λ s. from + carried_below p n s) g (λ s l. turn s l (either (carries p n s)))
    where
      g : ℕ → List ℕ → List ℕ
      g s b = cond (carries p n s) (words_stored b (from + carried_below p n s) (x s) (y s) (w s)) b

      turn : (s : ℕ) → s < S → (carries p n s ≡ true) ⊎ (carries p n s ≡ false)
          → cond (carries p n s) (words_stored (order_so_far (from + carried_below p n s)) (from + carried_below p n s) (x s) (y s) (w s)) (order_so_far (from + carried_below p n s))
          ≡ order_so_far (from + carried_below p n (suc s))
      turn s l (inl c) =
          let more : carried_below p n (suc s) ≡ carried_below p n s + 1 = count_suc s (carries p n) ∙ ap (λ (t : Bool). carried_below p n s + cond t 1 0) c in
          rw c (ordered_more (from + carried_below p n s) (from + carried_below p n (suc s)) (x s) (y s) (w s) (omega (arith, count_le s (carries p n))) (omega arith) (λ part. h s part l c))
      turn s l (inr c) =
          let same : carried_below p n s ≡ carried_below p n (suc s) =
          sym (count_suc s (carries p n) ∙ ap (λ (t : Bool). carried_below p n s + cond t 1 0) c ∙ add-zero (carried_below p n s)) in
          rw c (ap (λ (j : ℕ). order_so_far (from + j)) same)

  pub holders_stored : turns S (store_holder (2 * S) p n) (order_so_far (2 * S)) ≡ order_so_far (2 * S + own σ p n)
  holders_stored = carried_stored (2 * S) _ _ _ (omega arith) (λ s part l c. holder-record σ p d n s part l c)

  pub cuts_stored : turns S (store_cut (2 * S + own σ p n) p d n) (order_so_far (2 * S + own σ p n)) ≡ order_so_far (order_len σ p n)
  cuts_stored =
      carried_stored (2 * S + own σ p n) _ _ _ (omega (arith, count_le S (carries p n))) (λ s part l c. cut-record σ p d n s part l c)
      ∙ ap order_so_far (let e : 2 * S + own σ p n + own σ p n ≡ 2 * S + 2 * own σ p n = omega arith in e)

  -- all records are stored
  ordered_all : order_so_far (order_len σ p n) ≡ order_body σ p d n
  unfolding order_so_far order_body
  ordered_all =
      tabulate_ext 0 381 (λ k. cond (ltb k (3 * order_len σ p n)) (order_word σ p d n k) 0) (filled (3 * order_len σ p n) (order_word σ p d n) (replicate 381 0))
      (length_filled (3 * order_len σ p n) (order_word σ p d n) (replicate 381 0) (omega (arith, len_few σ p d n few, length-replicate {A = ℕ} 381 0)) ∙ length-replicate {A = ℕ} 381 0)
      (λ k l. ⊎_elim (said k) (blank k l) (lt_or_le k (3 * order_len σ p n)))
    where
      said : (k : ℕ) → k < 3 * order_len σ p n
          → get_or (filled (3 * order_len σ p n) (order_word σ p d n) (replicate 381 0)) k 0 ≡ cond (ltb k (3 * order_len σ p n)) (order_word σ p d n k) 0
      said k l = get_or_filled (3 * order_len σ p n) (order_word σ p d n) (replicate 381 0) k 0 l ∙ rw (lt-ltb k (3 * order_len σ p n) l)

      blank : (k : ℕ) → k < 381 → 3 * order_len σ p n ≤ k
          → get_or (filled (3 * order_len σ p n) (order_word σ p d n) (replicate 381 0)) k 0 ≡ cond (ltb k (3 * order_len σ p n)) (order_word σ p d n k) 0
      blank k h l =
          get_or_filled_rest (3 * order_len σ p n) (order_word σ p d n) (replicate 381 0) k 0 l
          ∙ get_or-replicate 381 k 0 0 h
          ∙ rw (le-ltb k (3 * order_len σ p n) l)

  -- the cuts of the table
  pub tabled_stored : (from : ℕ) (b : List ℕ) → turns S (store_tabled from (carries p n) (cuts_of σ p d n)) b ≡ turns S (store_cut from p d n) b
  tabled_stored from b = turns_same S (store_tabled from (carries p n) (cuts_of σ p d n)) (store_cut from p d n) b (λ s l y. turn s l y (either (carries p n s)))
    where
      turn : (s : ℕ) → s < S → (y : List ℕ) → (carries p n s ≡ true) ⊎ (carries p n s ≡ false)
          → store_tabled from (carries p n) (cuts_of σ p d n) s y ≡ store_cut from p d n s y
      turn s l y (inl c) =
          rw c (ap₂ (words_stored y (from + carried_below p n s) (1280 + s)) (cut_view p d n σ few s l c) (cut_k p d n σ few s l c))
      turn s l y (inr c) = rw c

  -- the four loops, one after another
  pub order_stored :
      turns S (store_cut (2 * S + own σ p n) p d n)
      (turns S (store_holder (2 * S) p n) (turns S (store_target S p) (turns S (store_members p.layout) (replicate 381 0))))
      ≡ order_body σ p d n
  order_stored =
      ap (turns S (store_cut (2 * S + own σ p n) p d n))
      (ap (turns S (store_holder (2 * S) p n))
      (ap (turns S (store_target S p)) (ap (turns S (store_members p.layout)) ordered_none ∙ members_stored) ∙ targets_stored)
      ∙ holders_stored)
      ∙ cuts_stored
      ∙ ordered_all

-- ---- what the four loops make, read off their results

-- the contents of a message to node n of the plan's view, with len records
abbrev pub order_with : Plan → ℕ → ℕ → List ℕ → Contents
order_with p n len b =
    record { node = record { 0 = n }; view = p.layout.number; members = p.layout.members; len = len; body = b }

module _ (σ : List ℕ) (p : Plan) (d : List ℕ) (n : ℕ) (few : shards σ ≤ 16) where
  -- count shards and the table of cuts; the body after each loop, and the index of the record after the holders and the cuts
  pub order_made : (count next len : ℕ) (cuts b1 b2 b3 b4 : List ℕ)
      → count ≡ shards σ → cuts ≡ cuts_of σ p d n
      → b1 ≡ turns count (store_members p.layout) (replicate 381 0)
      → b2 ≡ turns count (store_target count p) b1
      → next ≡ 2 * count + carried_below p n count
      → b3 ≡ turns count (store_holder (2 * count) p n) b2
      → len ≡ next + carried_below p n count
      → b4 ≡ turns count (store_tabled next (carries p n) cuts) b3
      → order_with p n len b4 ≡ order_contents σ p d n
  unfolding order_contents
  order_made count next len cuts b1 b2 b3 b4 ec et e1 e2 ej e3 el e4 =
      ap₂ (order_with p n) (el ∙ rw (ej, ec) (omega arith))
      (rw (e4, e3, e2, e1, ej, et, ec) (tabled_stored σ p d n few (2 * shards σ + own σ p n) _ ∙ order_stored σ p d n few))

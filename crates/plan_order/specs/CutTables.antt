-- The table of a node's cuts: two words for each shard, stored by turns, and read again.
use Rattle.std.specs.Prelude.{ℕ, ◌+◌, ◌*◌, ◌/◌, ◌%◌, ◌<◌, ◌≤◌, true, List, ◌≡◌, ltb, get_or, set, replicate}
use Rattle.std.proofs.Common.{arith, sym, ◌∙◌, lt-ltb}
use Rattle.std.proofs.Math.Bool.{cond}
use Rattle.std.proofs.Math.Path.{ap}
use Rattle.std.proofs.lemmas.List.{length-replicate}
use Rattle.base_laws.specs.Tables.{filled, filled_none, get_d_tabulate}
use Rattle.base_laws.proofs.Tables.{filled_turn, filled_else}
use Rattle.settings_values.specs.Definitions.{shards}
use Rattle.base_ids.specs.declared.Position.{Position}
use Rattle.message_format.specs.declared.Contents.{Contents}
use Rattle.report_views.specs.declared.Plan.{Plan}
use Rattle.report_views.specs.Definitions.{start, position_word, report_of, mask_at, holder_at, target_at}
use Rattle.base_laws.specs.Definitions.{has}
use Rattle.plan_order.specs.Definitions.{carries, cut_beside, cut_of}
use Rattle.plan_order.specs.Orders.{cut_carried, cuts_of}

-- the two words of position s
pair_view : (f : ℕ → Position) (s : ℕ) → position_word f (2 * s) ≡ (f s).view.0
pair_view f s =
    let q : 2 * s / 2 ≡ s = omega arith in
    let r : 2 * s % 2 ≡ 0 = omega arith in
    rw (r, q)

pair_k : (f : ℕ → Position) (s : ℕ) → position_word f (2 * s + 1) ≡ (f s).k
pair_k f s =
    let q : (2 * s + 1) / 2 ≡ s = omega arith in
    let r : (2 * s + 1) % 2 ≡ 1 = omega arith in
    rw (r, q)

-- a table in which the cuts of the first s shards are stored, and zeros after them
abbrev pub cuts_below : Plan → List ℕ → ℕ → ℕ → List ℕ
cuts_below p d n s = filled (2 * s) (position_word (cut_carried p d n)) (replicate 32 0)

module _ (p : Plan) (d : List ℕ) (n : ℕ) where
  pub cuts_none : replicate 32 0 ≡ cuts_below p d n 0
  cuts_none = sym (filled_none (position_word (cut_carried p d n)) (replicate 32 0))

  -- a turn stores the two words of the cut t
  pub cuts_turn : (s : ℕ) (l : List ℕ) (t : Position) → s < 16 → l ≡ cuts_below p d n s → t ≡ cut_carried p d n s
      → set (set l (2 * s) t.view.0) (2 * s + 1) t.k ≡ cuts_below p d n (s + 1)
  cuts_turn s l t h e g =
      let f = position_word (cut_carried p d n) in
      let long = length-replicate {A = ℕ} 32 0 in
      let two : 2 * s + 1 + 1 ≡ 2 * (s + 1) = omega arith in
      filled_turn (2 * s + 1) f (replicate 32 0) (set l (2 * s) t.view.0) t.k (omega (arith, long))
      (filled_turn (2 * s) f (replicate 32 0) l t.view.0 (omega (arith, long)) e
      (ap (λ (q : Position). q.view.0) g ∙ sym (pair_view (cut_carried p d n) s)))
      (ap (λ (q : Position). q.k) g ∙ sym (pair_k (cut_carried p d n) s))
      ∙ ap (λ (k : ℕ). filled k f (replicate 32 0)) two

  -- the end
  pub cuts_all : (σ : List ℕ) (s : ℕ) (l : List ℕ) → shards σ ≤ 16 → s ≡ shards σ → l ≡ cuts_below p d n s → l ≡ cuts_of σ p d n
  unfolding cuts_of
  cuts_all σ s l few e g =
      g ∙ ap (cuts_below p d n) e ∙ filled_else 0 32 (2 * shards σ) (position_word (cut_carried p d n)) (omega arith)

  -- the words of a shard that the node carries
  module _ (σ : List ℕ) (few : shards σ ≤ 16) (s : ℕ) (l : s < shards σ) (c : carries p n s ≡ true) where
    word_cut : (k : ℕ) → k < 2 * shards σ → get_or (cuts_of σ p d n) k 0 ≡ position_word (cut_carried p d n) k
    unfolding cuts_of
    word_cut k h =
        get_d_tabulate 32 (λ j. cond (ltb j (2 * shards σ)) (position_word (cut_carried p d n) j) 0) k 0 (omega arith)
        ∙ rw (lt-ltb k (2 * shards σ) h)

    carried_cut : cut_carried p d n s ≡ cut_of p d n s
    carried_cut = rw c

    pub cut_view : get_or (cuts_of σ p d n) (2 * s) 0 ≡ (cut_of p d n s).view.0
    cut_view =
        word_cut (2 * s) (omega arith) ∙ pair_view (cut_carried p d n) s ∙ ap (λ (q : Position). q.view.0) carried_cut

    pub cut_k : get_or (cuts_of σ p d n) (2 * s + 1) 0 ≡ (cut_of p d n s).k
    cut_k = word_cut (2 * s + 1) (omega arith) ∙ pair_k (cut_carried p d n) s ∙ ap (λ (q : Position). q.k) carried_cut

-- the cut of a node, by its report that has been read
pub cut-carried : (p : Plan) (d : List ℕ) (n s : ℕ) (own : Contents) (t : Position) → own ≡ report_of d n
    → t ≡ cond (has (mask_at p.layout s) n) (cut_beside d own.body own.len s (holder_at p s) (target_at p s)) start
    → t ≡ cut_carried p d n s
cut-carried p d n s own t e g =
    g ∙ ap (λ (c : Contents). cond (carries p n s) (cut_beside d c.body c.len s (holder_at p s) (target_at p s)) start) e

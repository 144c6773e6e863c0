-- A report's masks and positions against those of what is kept, shard by shard, and the parts of rows 12 and 13.
use Rattle.std.specs.Prelude.{ℕ, ◌+◌, ◌<◌, ◌≤◌, Bool, true, false, ◌&&◌, List, ◌≡◌, eqb, get_or}
use Rattle.std.proofs.Math.Path.{sym}
use Rattle.std.proofs.Common.{ap, ◌∙◌, arith, eq-eqb, ne_eqb, lt-ltb, le-ltb}
use Rattle.base_laws.specs.Bools.{and_rest, and_fails_left, and_fails_right, unasked}
use Rattle.base_laws.specs.Definitions.{all_below}
use Rattle.settings_values.specs.Definitions.{shards}
use Rattle.base_ids.specs.declared.Position.{Position}
use Rattle.message_format.specs.declared.Contents.{Contents}
use Rattle.message_format.specs.Definitions.{word1, word2, kind, members_of}
use Rattle.report_views.specs.declared.Layout.{Layout}
use Rattle.report_views.specs.declared.Termination.{Termination}
use Rattle.report_views.specs.Definitions.{pos, start, terminated, of_kept, same_view, same_position, same_termination, row13}

-- the body has these masks for its first n shards
unfoldable pub masks_same : List ℕ → List ℕ → ℕ → Bool
masks_same masks b n = all_below n (λ s. eqb (members_of b s) (get_or masks s 0))

-- record j has this position
abbrev pub record_same : Position → List ℕ → ℕ → Bool
record_same p b j = same_position (pos (word1 b j) (word2 b j)) p

-- the n records after the first count have these positions
unfoldable pub positions_same : List Position → List ℕ → ℕ → ℕ → Bool
positions_same positions b count n = all_below n (λ s. record_same (get_or positions s start) b (count + s))

-- ---- the parts of a comparison, with n for the number of shards

module _ (σ : List ℕ) (v : Layout) (c : Contents) where
  pub view_differs : (c.members ≡ v.members → ⊥) → false ≡ same_view σ v c
  unfolding same_view
  view_differs d = sym (and_fails_left _ (ne_eqb c.members v.members d))

  pub view_masks : (n : ℕ) → n ≡ shards σ → c.members ≡ v.members → masks_same v.masks c.body n ≡ same_view σ v c
  unfolding same_view masks_same
  view_masks n e h = rw e (and_rest _ (eq-eqb c.members v.members h))

module _ (σ : List ℕ) (c : Contents) (n : ℕ) (e : n ≡ shards σ) where
  pub term_short : c.len ≤ n → false ≡ terminated σ c
  term_short l = sym (and_fails_left _ (le-ltb (shards σ) c.len (omega arith)))

  pub term_kind : n < c.len → (k : ℕ) → k ≡ kind c.body n → eqb k 2 ≡ terminated σ c
  term_kind l k h = ap (λ (x : ℕ). eqb x 2) (h ∙ ap (kind c.body) e) ∙ and_rest _ (lt-ltb (shards σ) c.len (omega arith))

pub term_positions : (σ : List ℕ) (t : Termination) (c : Contents) (n : ℕ) → n ≡ shards σ
    → positions_same t.positions c.body n n ≡ same_termination σ t c
unfolding positions_same same_termination
term_positions σ t c n e = rw e

-- row 13 asks nothing where no termination is kept
pub row13_unmade : (σ : List ℕ) (v : Layout) (t : Termination) (c : Contents) → t.made ≡ false → true ≡ row13 σ v t c
unfolding row13
row13_unmade σ v t c h = unasked (same_termination σ t c) (and_fails_right (of_kept v c && terminated σ c) h)

-- What the quick acceptance finds in the words w of a slot whose records stand one after another: record i has words 4i to 4i + 3, and
-- the last of them is the index of the next.
use Rattle.std.specs.Prelude.{ℕ, ◌+◌, ◌*◌, ◌<◌, ◌≤◌, true, List, ◌⊎◌, ◌≡◌, get_or}
use Rattle.settings_values.specs.Definitions.{shards}
use Rattle.message_format.specs.declared.Form.TheVariants.{Report}
use Rattle.message_format.specs.Definitions.{row6, row7, row10, is_position}
use Rattle.report_views.specs.declared.Layout.{Layout}
use Rattle.report_views.specs.declared.Termination.{Termination}
use Rattle.report_views.specs.Definitions.{mask_at, position_at}

-- record s + 1 stands after the one before it and gives the members of shard s
pub record MemberTold (w : List ℕ) (s : ℕ) : Type 0 where
  pub linked : get_or w (4 * s + 3) 0 ≡ s + 1
  pub tagged : get_or w (4 * s + 4) 0 ≡ 256 + s
  pub plain : get_or w (4 * s + 6) 0 ≡ 0

-- record i + 1 stands after the one before it and gives the position of shard s, of no view above the report's
pub record PositionTold (w : List ℕ) (view i s : ℕ) : Type 0 where
  pub linked : get_or w (4 * i + 3) 0 ≡ i + 1
  pub tagged : get_or w (4 * i + 4) 0 ≡ 512 + s
  pub view_to : get_or w (4 * i + 5) 0 ≤ view
  pub placed : is_position (get_or w (4 * i + 5) 0) (get_or w (4 * i + 6) 0) ≡ true

-- a run, tag, view v and count k, that may follow a record with this tag and word 1
pub record RunFits (before since tag v k count view : ℕ) : Type 0 where
  pub rises : (before < tag) ⊎ ((before ≡ tag) × (since < v))
  pub low : 768 ≤ tag
  pub high : tag < 768 + count
  pub view_from : 1 ≤ v
  pub view_to : v ≤ view
  pub some : 1 ≤ k

-- record i + 1 is a run that stands after record i
pub record RunTold (w : List ℕ) (count view i : ℕ) : Type 0 where
  pub linked : get_or w (4 * i + 3) 0 ≡ i + 1
  pub fits : RunFits (get_or w (4 * i) 0) (get_or w (4 * i + 1) 0) (get_or w (4 * i + 4) 0) (get_or w (4 * i + 5) 0) (get_or w (4 * i + 6) 0) count view

-- after record at only runs stand, up to record last, which ends the chain
pub record RunsTold (w : List ℕ) (at count view last : ℕ) : Type 0 where
  pub from : at ≤ last
  pub few : last ≤ 127
  pub each : (i : ℕ) → at ≤ i → i < last → RunTold w count view i
  pub end : get_or w (4 * last + 3) 0 ≡ 0

-- the head is node n's, of a view below the kept one
pub record HeadTold (σ : List ℕ) (number : ℕ) (w : List ℕ) (n : ℕ) : Type 0 where
  pub own : get_or w 0 0 ≡ n
  pub known : row6 σ (get_or w 0 0) ≡ true
  pub seen : row7 Report σ (get_or w 0 0) (get_or w 1 0) (get_or w 2 0) ≡ true
  pub earlier : get_or w 1 0 < number

-- the masks that the records give for the shards
abbrev pub mask_told : List ℕ → ℕ → ℕ
mask_told w s = get_or w (4 * s + 5) 0

-- they pass row 10, and a report of the kept view has its members and masks
pub record MasksFit (σ : List ℕ) (v : Layout) (w : List ℕ) : Type 0 where
  pub sound : row10 σ (get_or w 2 0) (mask_told w) ≡ true
  pub members : get_or w 1 0 ≡ v.number.0 → get_or w 2 0 ≡ v.members
  pub masks : get_or w 1 0 ≡ v.number.0 → (s : ℕ) → s < shards σ → mask_told w s ≡ mask_at v s

-- the position of shard s in the termination is the kept one
pub record PositionFits (t : Termination) (w : List ℕ) (i s : ℕ) : Type 0 where
  pub view : get_or w (4 * i + 5) 0 ≡ (position_at t s).view.0
  pub k : get_or w (4 * i + 6) 0 ≡ (position_at t s).k

-- a termination in a report of the kept view is kept, with these positions
pub record EndFits (σ : List ℕ) (v : Layout) (t : Termination) (w : List ℕ) : Type 0 where
  pub made : get_or w 1 0 ≡ v.number.0 → t.made ≡ true
  pub positions : get_or w 1 0 ≡ v.number.0 → (s : ℕ) → s < shards σ → PositionFits t w (shards σ + s) s

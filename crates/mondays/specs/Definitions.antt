-- What the program promises. No contract can say which bytes a read gives: the promise is of the bytes that came, whatever they are.
use Rattle.std.specs.Prelude.{ℕ, ◌*◌, ◌/◌, ◌≤◌, Bool, true, false, cond, List, ◌++◌, ◌≡◌, length, take}
use Rattle.base_ids.specs.Definitions.{accepted}
use Rattle.program_input.specs.Definitions.{may_come, is_cut, MayFollow, Came, Fills}
use Rattle.mondays_moves.specs.declared.Tally.{Tally}
use Rattle.mondays_moves.specs.Definitions.{mondays_text, block_text, tally_after}
use Rattle.mondays_laws.specs.Definitions.{standing_text}
use Rattle.mondays.specs.declared.Tallied.{Tallied}

-- more may come, no line was bad and all was written
abbrev pub takes_more : Tallied → Bool
takes_more x = cond x.written (cond (accepted x.tally.refusal) (may_come x.input.source) false) false

-- a block is taken: the tally after it, and what it prints is the first n bytes of `out`
pub record PrintedBlock (t : Tally) (bytes : List ℕ) (after : Tally) (out : List ℕ) (n : ℕ) : Type 0 where
  pub tally : after ≡ tally_after t bytes
  pub text : take n out ≡ block_text t bytes
  pub within : n ≤ length out

-- one block more: what reads left at the start of the block is taken and printed; nothing is where reading was cut
pub record TakesTurn (x : Tallied) (block out : List ℕ) (r : Tallied) : Type 0 where
  pub len : ℕ
  pub put : ℕ
  pub room : length block ≡ 32768
  pub fills : Fills x.input block r.input len
  pub taken : is_cut r.input.source ≡ false → PrintedBlock x.tally (take len block) r.tally out put
  pub kept : is_cut r.input.source ≡ true → r.tally ≡ x.tally

-- the bytes without those after the last full block
abbrev pub full_blocks : List ℕ → List ℕ
full_blocks bytes = take (32768 * (length bytes / 32768)) bytes

-- every byte that came is taken, but for those of a block at which reading was cut. Unless that or a write failed, what is printed for the bytes
-- that came is what is printed for the file, whatever may follow them.
pub record ShowsAll (r : Tallied) : Type 0 where
  pub came : List ℕ
  pub reads : Came came r.input
  pub taken : is_cut r.input.source ≡ false → r.tally ≡ standing_text came
  pub cut : is_cut r.input.source ≡ true → r.tally ≡ standing_text (full_blocks came)
  pub ended : r.written ≡ true → is_cut r.input.source ≡ false → (rest : List ℕ) → MayFollow r.input.source rest
      → mondays_text (came ++ rest) ≡ mondays_text came

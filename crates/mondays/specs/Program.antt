-- What the program promises. No contract can say which bytes a read gives: the promise is of the bytes that came, whatever they are.
use Rattle.std.specs.Prelude.{ℕ, ◌*◌, ◌/◌, ◌%◌, ◌≤◌, ◌<◌, Bool, true, false, cond, List, [], ◌++◌, ◌≡◌, refl, length, take}
use Rattle.std.proofs.Common.{true≢false, append-nil, sym, ap, ◌∙◌, subst, arith, length-take, length-append, take_at, eq-eqb}
use Rattle.base_ids.specs.Definitions.{accepted}
use Rattle.program_text.specs.Puts.{puts_first}
use Rattle.program_input.specs.declared.Source.{Source}
use Rattle.program_input.specs.declared.Source.TheVariants.{Open, Over, Failed, Endless}
use Rattle.program_input.specs.declared.Input.{Input}
use Rattle.program_input.specs.Definitions.{unread, may_come, is_cut, MayFollow, Came, no_read, Fills}
use Rattle.program_input.specs.Inputs.{reads_then}
use Rattle.mondays_moves.specs.declared.Tally.{Tally}
use Rattle.mondays_moves.specs.declared.MovesTaken.{MovesTaken}
use Rattle.mondays_moves.specs.Definitions.{mondays_text, block_text, tally_after}
use Rattle.mondays_moves.specs.Tallies.{fresh_tally, TakesBlock}
use Rattle.mondays_laws.specs.Definitions.{standing_text}
use Rattle.mondays_laws.specs.Pieces.{whole_lines, standing_none, text_more, tally_more, text_length}
use Rattle.mondays.specs.declared.Tallied.{Tallied}
use Rattle.mondays.specs.Definitions.{takes_more, PrintedBlock, TakesTurn, full_blocks, ShowsAll}

-- ---- laws

pub printed : (t : Tally) (bytes out : List ℕ) (r : MovesTaken) (after : List ℕ) → length t.kept ≡ 63 → length bytes ≤ 32768 → length out ≡ 98304
    → TakesBlock t bytes out r after → PrintedBlock t bytes r.tally after r.len
printed t bytes out r after k h e p =
    let room : length (block_text t bytes) ≤ length out = omega (arith, text_length t bytes k h) in
    record {
      tally = p.tally;
      text = (puts_first out (block_text t bytes) after r.len room p.puts).1;
      within = p.puts.within;
    }

-- whether it goes on
module _ (x : Tallied) where
  pub not_written : x.written ≡ false → takes_more x ≡ false
  not_written h = rw h

  pub was_refused : x.written ≡ true → accepted x.tally.refusal ≡ false → takes_more x ≡ false
  was_refused h k = rw (h, k)

  pub goes_as : x.written ≡ true → accepted x.tally.refusal ≡ true → takes_more x ≡ may_come x.input.source
  goes_as h k = rw (h, k)

-- a turn
module _ {x : Tallied} {block out : List ℕ} {y : Input} {n : ℕ} (room : length block ≡ 32768) (f : Fills x.input block y n) where
  pub turn_cut : is_cut y.source ≡ true → TakesTurn x block out (record { tally = x.tally; input = y; written = true })
  turn_cut c =
      record { len = n; put = 0; room = room; fills = f; taken = λ d. absurd (true≢false (sym c ∙ d)); kept = λ _. refl }

  pub turn_taken : {t : Tally} {m : ℕ} {w : Bool} → is_cut y.source ≡ false → PrintedBlock x.tally (take n block) t out m
      → TakesTurn x block out (record { tally = t; input = y; written = w })
  turn_taken {m = m} c p =
      record { len = n; put = m; room = room; fills = f; taken = λ _. p; kept = λ d. absurd (true≢false (sym d ∙ c)) }

-- an input that is cut is not open
cut_shut : (s : Source) → is_cut s ≡ true → may_come s ≡ false
cut_shut Open h = absurd (true≢false (sym h))
cut_shut Over h = absurd (true≢false (sym h))
cut_shut Failed h = refl
cut_shut Endless h = refl

open_whole : (s : Source) → may_come s ≡ true → is_cut s ≡ false
open_whole Open h = refl
open_whole Over h = absurd (true≢false (sym h))
open_whole Failed h = absurd (true≢false (sym h))
open_whole Endless h = absurd (true≢false (sym h))

-- what is known before a turn, and after the last: where more may come, what came is full blocks
pub record StandsBefore (x : Tallied) : Type 0 where
  pub came : List ℕ
  pub reads : Came came x.input
  pub full : may_come x.input.source ≡ true → length came % 32768 ≡ 0
  pub taken : is_cut x.input.source ≡ false → x.tally ≡ standing_text came
  pub cut : is_cut x.input.source ≡ true → x.tally ≡ standing_text (full_blocks came)

pub stands_none : (t : Tally) (x : Input) → t ≡ fresh_tally → x ≡ unread → StandsBefore (record { tally = t; input = x; written = true })
stands_none t x e d =
    subst (λ (y : Input). StandsBefore (record { tally = t; input = y; written = true })) (sym d)
    (record {
      came = [];
      reads = no_read;
      full = λ _. refl;
      taken = λ _. e ∙ sym standing_none;
      cut = λ h. absurd (true≢false (sym h));
    })

-- bytes of full blocks are whole lines
lines_whole : (a : List ℕ) → length a % 32768 ≡ 0 → whole_lines a ≡ true
lines_whole a h = eq-eqb (length a % 8) 0 (omega arith)

-- full blocks, and fewer bytes than a block has
full_front : (a b : List ℕ) → length a % 32768 ≡ 0 → length b < 32768 → full_blocks (a ++ b) ≡ a
full_front a b h l =
    let n : 32768 * (length (a ++ b) / 32768) ≡ length a = omega (arith, length-append a b) in
    take_at a b (32768 * (length (a ++ b) / 32768)) (sym n)

-- while it goes on
going_open : (w a m : Bool) → cond w (cond a m false) false ≡ true → m ≡ true
going_open true true m h = h
going_open true false m h = absurd (true≢false (sym h))
going_open false a m h = absurd (true≢false (sym h))

pub goes_open : (x : Tallied) → takes_more x ≡ true → may_come x.input.source ≡ true
goes_open x h = going_open x.written (accepted x.tally.refusal) (may_come x.input.source) h

module _ {x : Tallied} {block out : List ℕ} {r : Tallied} (s : StandsBefore x) (g : takes_more x ≡ true) (t : TakesTurn x block out r) where
  size : length s.came % 32768 ≡ 0
  size = s.full (goes_open x g)

  before : x.tally ≡ standing_text s.came
  before = s.taken (open_whole x.input.source (goes_open x g))

  pub stands_turn : StandsBefore r
  stands_turn =
      record {
        came = s.came ++ take t.len block;
        reads = reads_then s.reads t.fills.reads;
        full = λ o. omega (arith, length-append s.came (take t.len block), length-take t.len block, t.fills.full o, t.room, size);
        taken =
            λ c.
            (t.taken c).tally ∙ ap (λ (y : Tally). tally_after y (take t.len block)) before
            ∙ tally_more s.came (take t.len block) (lines_whole s.came size);
        cut =
            λ c.
            t.kept c ∙ before
            ∙ ap standing_text
            (sym (full_front s.came (take t.len block) size
            (omega (arith, length-take t.len block, t.room, t.fills.short (cut_shut r.input.source c)))));
      }

-- nothing is printed after a refusal
text_none : (t : Tally) (bytes : List ℕ) → accepted t.refusal ≡ false → block_text t bytes ≡ []
unfolding block_text
text_none t bytes h = rw h

-- it goes on no more
module _ {x : Tallied} (s : StandsBefore x) (g : takes_more x ≡ false) where
  -- a bad line ended it
  was_bad : (w a : Bool) → cond {A = Bool} w (cond a true false) false ≡ false → w ≡ true → a ≡ false
  was_bad true true h e = absurd (true≢false h)
  was_bad true false h e = refl
  was_bad false a h e = absurd (true≢false (sym e))

  after_bad : accepted x.tally.refusal ≡ false → may_come x.input.source ≡ true → (rest : List ℕ)
      → mondays_text (s.came ++ rest) ≡ mondays_text s.came
  after_bad b o rest =
      let t : x.tally ≡ standing_text s.came = s.taken (open_whole x.input.source o) in
      text_more s.came rest (lines_whole s.came (s.full o))
      ∙ ap (λ (l : List ℕ). mondays_text s.came ++ l) (text_none (standing_text s.came) rest (ap (λ (y : Tally). accepted y.refusal) (sym t) ∙ b))
      ∙ append-nil (mondays_text s.came)

  nothing_more : (k : Source) → x.input.source ≡ k → x.written ≡ true → is_cut k ≡ false → (rest : List ℕ) → MayFollow k rest
      → mondays_text (s.came ++ rest) ≡ mondays_text s.came
  nothing_more Open e w c rest m =
      let o : may_come x.input.source ≡ true = ap may_come e in
      after_bad
      (was_bad x.written (accepted x.tally.refusal)
      (ap (λ (y : Bool). cond x.written (cond (accepted x.tally.refusal) y false) false) (sym o) ∙ g) w) o rest
  nothing_more Over e w c rest m = ap (λ (l : List ℕ). mondays_text (s.came ++ l)) m ∙ ap mondays_text (append-nil s.came)
  nothing_more Failed e w c rest m = absurd (true≢false c)
  nothing_more Endless e w c rest m = absurd (true≢false c)

  pub stands_all : ShowsAll x
  stands_all =
      record {
        came = s.came;
        reads = s.reads;
        taken = s.taken;
        cut = s.cut;
        ended = λ w c rest m. nothing_more x.input.source refl w c rest m;
      }

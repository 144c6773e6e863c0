-- Reading, step by step, and what a program answers by what it read.
use Rattle.std.specs.Prelude.{ℕ, ◌+◌, ◌*◌, ◌≤◌, ◌<◌, ◌-◌, Bool, true, false, cond, List, [], ◌++◌, ◌≡◌, refl, length, get_or, take, replicate}
use Rattle.std.proofs.Common.{true≢false, sym, ap, ap₂, ◌∙◌, subst, arith}
use Rattle.std.proofs.lemmas.List.{length-replicate, get_or-replicate}
use Rattle.base_laws.specs.Tables.{tabulate_same, zeros}
use Rattle.base_bytes.specs.Definitions.{word_at, words_of}
use Rattle.base_lent.specs.Definitions.{words_in}
use Rattle.base_lent.specs.Lent.{all_words}
use Rattle.program_blocks.specs.Definitions.{blocks}
use Rattle.program_input.specs.declared.Source.{Source}
use Rattle.program_input.specs.declared.Source.TheVariants.{Open, Over, Failed, Endless}
use Rattle.program_input.specs.declared.Input.{Input}
use Rattle.program_input.specs.Definitions.{unread, is_cut, MayFollow, ReadsOn, no_read, one_more}
use Rattle.program_run.specs.declared.Run.{Run}
use Rattle.program_run.specs.Definitions.{Started, after, at_start, started_run, progress_of, closed_at, ahead, ReadyRun, Feeds, Closes}
use Rattle.program_run.specs.Steps.{feeds_none, feeds_then}
use Rattle.program_run.specs.Whole.{started_ready, closed_same, run_comes}
use Rattle.program_reading.specs.declared.Intake.{Intake}
use Rattle.program_reading.specs.Definitions.{goes_on, ReadsMore, FedSoFar, ReadsAll, Answers}
use Rattle.program_reading.specs.Reading.{ReadsRun}

-- before the first read, and after one more
pub fed_first : {d bytes : List ℕ} {r : Run} {x : Input} → length bytes ≡ 2056 → r ≡ started_run → x ≡ unread
    → FedSoFar d bytes (record { run = r; input = x }) d bytes
fed_first {d} {bytes} h e u =
    subst (λ (i : Intake). FedSoFar d bytes i d bytes) (sym (ap₂ (λ (a : Run) (y : Input). record { run = a; input = y }) e u))
    (record { came = []; reads = no_read; feeds = feeds_none (started_ready bytes h) })

pub fed_then : {d bytes gave : List ℕ} {x r : Intake} {e b f c : List ℕ} → FedSoFar d bytes x e b → ReadsMore x e b gave r f c → FedSoFar d bytes r f c
fed_then {gave = gave} {x} {r} p t =
    record { came = p.came ++ gave; reads = one_more p.came gave x.input r.input p.reads t.reads; feeds = feeds_then p.feeds t.feeds }

-- the first n bytes of a buffer
pub feeds_front : {run : Run} {d bytes : List ℕ} {r : Run} {e b : List ℕ} (n : ℕ) (xs : List ℕ) → Feeds run d bytes (take (n - 0) xs) r e b
    → Feeds run d bytes (take n xs) r e b
feeds_front {run} {d} {bytes} {r} {e} {b} n xs p =
    let same : n - 0 ≡ n = omega arith in
    subst (λ (k : ℕ). Feeds run d bytes (take k xs) r e b) same p

pub turns_by : {d bytes : List ℕ} {s : Run} {e b : List ℕ} (x : Intake) (y : Input) (buffer : List ℕ) (n : ℕ) → ReadsOn x.input (take y.got buffer) y
    → n ≡ y.got → Feeds x.run d bytes (take n buffer) s e b → ReadsMore x d bytes (take y.got buffer) (record { run = s; input = y }) e b
turns_by {d} {bytes} {s} {e} {b} x y buffer n reads h feeds =
    record { reads = reads; feeds = subst (λ (k : ℕ). Feeds x.run d bytes (take k buffer) s e b) h feeds }

-- while reading goes on more may come
pub going_open : (b m : Bool) → cond b false m ≡ true → m ≡ true
going_open true m h = absurd (true≢false (sym h))
going_open false m h = h

is_closed : (b : Bool) → cond {A = Bool} b false true ≡ false → b ≡ true
is_closed true h = refl
is_closed false h = absurd (true≢false h)

-- ---- the whole input

module _ {d bytes : List ℕ} {r : Intake} {e b : List ℕ} (p : ReadsAll d bytes r e b) where
  -- the run can be closed
  pub reads_ready : ReadyRun r.run b
  reads_ready = p.fed.feeds.ready

  -- the input was cut
  pub reads_cut : is_cut r.input.source ≡ true → ReadsRun d r e
  reads_cut h =
      record {
        came = p.fed.came;
        reads = p.fed.reads;
        settled = reads_ready.settled;
        leads = λ g. absurd (true≢false (sym h ∙ g));
      }

  -- the input is at its end, or the run is closed: what may follow changes nothing
  ends_same : (s : Source) → goes_on s r.run.stage ≡ false → is_cut s ≡ false → (rest : List ℕ) → MayFollow s rest
      → ahead r.run e b rest ≡ ahead r.run e b []
  ends_same Open o c rest m = closed_same r.run e b rest (is_closed (closed_at r.run.stage) o)
  ends_same Over o c rest m = ap (ahead r.run e b) m
  ends_same Failed o c rest m = absurd (true≢false c)
  ends_same Endless o c rest m = absurd (true≢false c)

  pub reads_closed : {last : Run} {f : List ℕ} → Closes r.run e b last f → ReadsRun d (record { run = last; input = r.input }) f
  reads_closed {last} {f} q =
      record {
        came = p.fed.came;
        reads = p.fed.reads;
        settled = q.settled;
        leads = λ g rest m.
            run_comes d p.fed.came bytes r.run e b last f p.fed.feeds q rest (ends_same r.input.source p.ended g rest m);
      }

-- ---- what is answered

module _ (Says : List ℕ → List ℕ → Type 0) {d : List ℕ} {r : Intake} {e : List ℕ} (p : ReadsRun d r e) where
  -- the input was cut
  pub answers_none : (out : List ℕ) → is_cut r.input.source ≡ true → Answers Says out (record { len = 0; input = r.input })
  answers_none out h =
      record {
        came = p.came;
        reads = p.reads;
        printed = λ g rest m. absurd (true≢false (sym h ∙ g));
        silent = λ g. refl;
        within = omega arith;
      }

  -- n bytes say what is to be said of every input that leads where the run has come
  pub answers_by : (out : List ℕ) (n : ℕ) → d ≡ replicate 16384 0 → is_cut r.input.source ≡ false → n ≤ length out
      → ((input : List ℕ) → progress_of r.run e ≡ after at_start (blocks input) → Says input (take n out))
      → Answers Says out (record { len = n; input = r.input })
  answers_by out n empty c fits says =
      record {
        came = p.came;
        reads = p.reads;
        printed = λ g rest m. says (p.came ++ rest) (p.leads g rest m ∙ ap (λ (x : List ℕ). after (Started x) (blocks (p.came ++ rest))) empty);
        silent = λ g. absurd (true≢false (sym g ∙ c));
        within = fits;
      }

-- ---- a desk of zeros

zero_byte : (n k : ℕ) → k < n → get_or (zeros n) k 0 ≡ 0
zero_byte n k l = get_or-replicate {A = ℕ} n k 0 0 l

zero_words : (n : ℕ) → zeros n ≡ words_in (zeros (4 * n))
unfolding words_of word_at
zero_words n =
    tabulate_same n 0 (word_at (zeros (4 * n))) (λ k l.
    rw (
      zero_byte (4 * n) (4 * k) (omega arith),
      zero_byte (4 * n) (4 * k + 1) (omega arith),
      zero_byte (4 * n) (4 * k + 2) (omega arith),
      zero_byte (4 * n) (4 * k + 3) (omega arith),
    ))
    ∙ all_words (zeros (4 * n)) n (length-replicate {A = ℕ} (4 * n) 0)

pub empty-desk : words_in (replicate 65536 0) ≡ replicate 16384 0
empty-desk = sym (zero_words 16384)

-- The whole run: bytes fed to a run that has just started, its close and its print give what is printed for those bytes.
use Rattle.std.specs.Prelude.{ℕ, ◌≤◌, true, List, [], ◌++◌, ◌≡◌, refl, length, take, replicate}
use Rattle.std.proofs.Common.{true≢false, append-nil, ap, ◌∙◌, subst, arith}
use Rattle.std.proofs.Math.Path.{sym, subst⁻¹}
use Rattle.program_blocks.specs.Definitions.{blocks}
use Rattle.program_blocks.specs.Blocks.{needed_ends}
use Rattle.program_text.specs.Puts.{puts_first}
use Rattle.program_run.specs.declared.Stage.{Stage}
use Rattle.program_run.specs.declared.Stage.TheVariants.{Opening, Open, Closed}
use Rattle.program_run.specs.declared.Run.{Run}
use Rattle.program_run.specs.Definitions.{Progress, Started, at_start, after, Prints, Printed, started_run, progress_at, progress_of, closed_at, ahead, ReadyRun, Feeds, Closes, Writes}
use Rattle.program_run.specs.Runs.{desk_in}
use Rattle.program_run.specs.RunLaws.{after_ended}

-- a run that has just started is ready
pub started_ready : (bytes : List ℕ) → length bytes ≡ 2056 → ReadyRun started_run bytes
started_ready bytes h =
    record { room = h; coming = omega (arith, (needed_ends (take 0 bytes)).0); settled = (omega arith, λ h. absurd (let z : ◌≡◌ {A = ℕ} 0 1 = cc in omega arith)) }

-- a run that is closed has come to its end, whatever follows
pub closed_now : (r : Run) (e b : List ℕ) → closed_at r.stage ≡ true → (rest : List ℕ) → ahead r e b rest ≡ progress_of r e
unfolding ahead progress_at
closed_now r e b h rest = at r.stage h
  where
    at : (k : Stage) → closed_at k ≡ true
        → after (progress_at k (take r.words r.settings) r.state e) (blocks (take r.pending b ++ rest))
        ≡ progress_at k (take r.words r.settings) r.state e
    at Opening h = absurd (true≢false (sym h))
    at Open h = absurd (true≢false (sym h))
    at (Closed x) h = after_ended x e (blocks (take r.pending b ++ rest))

pub closed_same : (r : Run) (e b rest : List ℕ) → closed_at r.stage ≡ true → ahead r e b rest ≡ ahead r e b []
closed_same r e b rest h = closed_now r e b h rest ∙ sym (closed_now r e b h [])

-- ---- the desk

desk_at : (r : Run) (e : List ℕ) → desk_in (progress_of r e) ≡ e
unfolding desk_in progress_at
desk_at r e = at r.stage
  where
    at : (k : Stage) → desk_in (progress_at k (take r.words r.settings) r.state e) ≡ e
    at Opening = refl
    at Open = refl
    at (Closed x) = refl

-- after a refusal the desk is that to which the bytes have led: what it held before the block that was refused
pub refused_desk : (run : Run) (d bytes fed : List ℕ) (r : Run) (e b : List ℕ) → Feeds run d bytes fed r e b → closed_at r.stage ≡ true
    → e ≡ desk_in (ahead run d bytes fed)
unfolding ahead
refused_desk run d bytes fed r e b feeds h =
    sym (desk_at r e) ∙ ap desk_in (sym (closed_now r e b h []) ∙ feeds.same [] ∙ ap (ahead run d bytes) (append-nil fed))

-- at the end of the input too
pub closed_desk : (run : Run) (d bytes : List ℕ) (r : Run) (e : List ℕ) → Closes run d bytes r e → e ≡ desk_in (ahead run d bytes [])
closed_desk run d bytes r e closes = sym (desk_at r e) ∙ ap desk_in closes.leads

-- ---- the whole run

module _ (d input bytes : List ℕ) (r : Run) (e b : List ℕ) (last : Run) (f : List ℕ) (fed : Feeds started_run d bytes input r e b) (closes : Closes r e b last f) where
  -- what the bytes that were fed lead to, and those that follow, if they change nothing
  pub run_comes : (rest : List ℕ) → ahead r e b rest ≡ ahead r e b [] → progress_of last f ≡ after (Started d) (blocks (input ++ rest))
  unfolding ahead progress_at
  run_comes rest same = closes.leads ∙ sym same ∙ fed.same rest

-- what is put into the bytes `out` is what is printed for an input that leads there
pub writes_printed : (p : Progress) (out text : List ℕ) (n : ℕ) → Writes p out text n → 8192 ≤ length out → (input : List ℕ) → p ≡ after at_start (blocks input)
    → Printed input (take n text)
unfolding Printed
writes_printed p out text n writes room input whole =
    subst⁻¹ (λ (t : List ℕ). Prints (after at_start (blocks input)) t)
    (puts_first out writes.text text n (omega (arith, writes.fits)) writes.puts).1
    (subst (λ (q : Progress). Prints q writes.text) whole writes.prints)

-- the bytes fed, the close and the print give what is printed for those bytes
pub run_prints : (input bytes : List ℕ) (r : Run) (e b : List ℕ) (last : Run) (f out text : List ℕ) (n : ℕ) → Feeds started_run (replicate 16384 0) bytes input r e b
    → Closes r e b last f → Writes (progress_of last f) out text n → 8192 ≤ length out → Printed input (take n text)
run_prints input bytes r e b last f out text n fed closes writes room =
    writes_printed (progress_of last f) out text n writes room input
    (run_comes (replicate 16384 0) input bytes r e b last f fed closes [] refl ∙ ap (λ (l : List ℕ). after at_start (blocks l)) (append-nil input))

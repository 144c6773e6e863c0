-- The whole run of the program sheet: bytes fed to a run that has just started, its close and its print give what is printed for those bytes;
-- one text is printed for an input; after the last block only 22 and 23 can refuse; and the five counts of a sheet add up to all masks.
use Rattle.std.specs.Prelude.{ℕ, ◌+◌, ◌^◌, ◌≤◌, true, ◌&&◌, List, [], ◌⊎◌, ◌≡◌, refl, leb, length, take, replicate}
use Rattle.std.proofs.Common.{append-nil, inl, inr, ⊎_elim, sym, ap, ◌∙◌, subst, arith}
use Rattle.std.proofs.Math.Path.{subst⁻¹}
use Rattle.base_laws.specs.Bools.{either}
use Rattle.base_ids.specs.Definitions.{none, refused, accepted}
use Rattle.base_ids.specs.Refusals.{unless_true, unless_false, first_none}
use Rattle.settings_values.specs.Definitions.{nodes}
use Rattle.state_planner.specs.declared.State.{State}
use Rattle.state_planner.specs.Definitions.{decide_refusal}
use Rattle.state_readiness.specs.declared.ReadyRows.{ReadyRows}
use Rattle.state_readiness.specs.Definitions.{ready, slots_refusal, size_refusal, ready_refusal, Readies}
use Rattle.state_readiness.specs.Answers.{row_in_range, readies_one}
use Rattle.program_blocks.specs.Definitions.{blocks}
use Rattle.program_text.specs.Puts.{puts_first}
use Rattle.program_run.specs.declared.Run.{Run}
use Rattle.program_run.specs.Definitions.{Progress, Started, Underway, Ended, after, at_start, started_run, progress_of, Feeds, Closes}
use Rattle.program_run.specs.Whole.{run_comes}
use Rattle.program_run_laws.proofs.Reaches.{decide_taken}
use Rattle.program_sheet_text.specs.Definitions.{rows_with}
use Rattle.program_sheet_text.specs.Laws.{counts_add_up}
use Rattle.program_sheet.specs.Definitions.{readiness_text, SheetPrints, Sheeted, SheetWrites}

-- what is put into the bytes `out` is what is printed for an input that leads there
pub writes_sheeted : (p : Progress) (out text : List ℕ) (n : ℕ) → SheetWrites p out text n → 32768 ≤ length out → (input : List ℕ)
    → p ≡ after at_start (blocks input) → Sheeted input (take n text)
unfolding Sheeted
writes_sheeted p out text n writes room input whole =
    subst⁻¹ (λ (t : List ℕ). SheetPrints (after at_start (blocks input)) t)
    (puts_first out writes.text text n (omega (arith, writes.fits)) writes.puts).1
    (subst (λ (q : Progress). SheetPrints q writes.text) whole writes.prints)

-- the bytes fed, the close and the print give what is printed for those bytes
pub sheet_prints : (input bytes : List ℕ) (r : Run) (e b : List ℕ) (last : Run) (f out text : List ℕ) (n : ℕ) → Feeds started_run (replicate 16384 0) bytes input r e b
    → Closes r e b last f → SheetWrites (progress_of last f) out text n → 32768 ≤ length out → Sheeted input (take n text)
sheet_prints input bytes r e b last f out text n fed closes writes room =
    writes_sheeted (progress_of last f) out text n writes room input
    (run_comes (replicate 16384 0) input bytes r e b last f fed closes [] refl ∙ ap (λ (l : List ℕ). after at_start (blocks l)) (append-nil input))

-- one input: one text
sheet_unique : (p : Progress) (a b : List ℕ) → SheetPrints p a → SheetPrints p b → a ≡ b
unfolding SheetPrints
sheet_unique (Started d) a b h k = h ∙ sym k
sheet_unique (Underway σ x d) a b h k =
    h.says ∙ (ap (readiness_text σ) (readies_one true σ x d h.readiness h.readies k.readiness k.readies) ∙ sym k.says)
sheet_unique (Ended r d) a b h k = h ∙ sym k

pub sheeted_unique : (input a b : List ℕ) → Sheeted input a → Sheeted input b → a ≡ b
unfolding Sheeted
sheeted_unique input a b h k = sheet_unique (after at_start (blocks input)) a b h k

-- after the last block nothing is refused, or more than ten nodes by 22, or a node without a report by 23
pub sheet_never_3 : (input σ : List ℕ) (x : State) (d : List ℕ) → after at_start (blocks input) ≡ Underway σ x d
    → (ready_refusal true σ x d ≡ none) ⊎ ((ready_refusal true σ x d ≡ refused 22) ⊎ (ready_refusal true σ x d ≡ refused 23))
unfolding ready_refusal size_refusal slots_refusal
sheet_never_3 input σ x d e =
    let first = first_none (decide_refusal σ x d) (size_refusal true σ x d) (decide_taken input σ x d e) in
    ⊎_elim
    (λ s.
    let second = first ∙ unless_true (leb (nodes σ) 10 && true) 22 (slots_refusal σ x d) s in
    ⊎_elim (λ t. inl (second ∙ unless_true (ready σ x.kept x.termination d) 23 none t)) (λ t. inr (inr (second ∙ unless_false (ready σ x.kept x.termination d) 23 none t))) (either (ready σ x.kept x.termination d)))
    (λ s. inr (inl (first ∙ unless_false (leb (nodes σ) 10 && true) 22 (slots_refusal σ x d) s))) (either (leb (nodes σ) 10 && true))

-- the five counts of a sheet add up to the number of masks
pub sheet_adds_up : (σ : List ℕ) (x : State) (d : List ℕ) (r : ReadyRows) → Readies true σ x d r → accepted (ready_refusal true σ x d) ≡ true
    → rows_with r.rows (2 ^ nodes σ) 0 + rows_with r.rows (2 ^ nodes σ) 2 + rows_with r.rows (2 ^ nodes σ) 3 + rows_with r.rows (2 ^ nodes σ) 4
    + rows_with r.rows (2 ^ nodes σ) 5
    ≡ 2 ^ nodes σ
sheet_adds_up σ x d r readies taken = counts_add_up r.rows (2 ^ nodes σ) (λ h l. row_in_range true σ x d r readies taken h l)

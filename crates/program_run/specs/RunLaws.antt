-- Laws of runs: a block, as far as it is looked at, leads on as the whole block does.
use Rattle.std.specs.Prelude.{ℕ, ◌%◌, ◌≤◌, ◌<◌, Bool, false, cond, List, [], ◌∷◌, ◌++◌, ◌≡◌, refl, eqb, leb, length, drop}
use Rattle.std.proofs.Common.{⊎_elim, append-nil, sym, ap, ◌∙◌, arith, length-drop}
use Rattle.std.proofs.lemmas.Bool.{lt-leb}
use Rattle.base_laws.specs.Bools.{either, no_true, and_fails_left, and_fails_right, lt_or_le}
use Rattle.settings_values.specs.Definitions.{settings_ok}
use Rattle.settings_values.specs.Laws.{settings_give}
use Rattle.base_ids.specs.declared.Refusal.{Refusal}
use Rattle.base_ids.specs.Definitions.{refused, accepted, first_of}
use Rattle.base_ids.specs.Refusals.{first_refused, unless_false}
use Rattle.message_format.specs.declared.Form.TheVariants.{Report}
use Rattle.message_format.specs.Definitions.{row5, message_refusal, contents_of}
use Rattle.report_kept.specs.Definitions.{kept_refusal, refusal_beside}
use Rattle.state_planner.specs.declared.State.{State}
use Rattle.state_planner.specs.Definitions.{report_refusal, entry_refusal, desk_ok, reported, desk_after}
use Rattle.report_views.specs.Definitions.{is_gathering}
use Rattle.program_blocks.specs.Definitions.{block_count, blocks, needed, whole_words}
use Rattle.program_blocks.specs.Blocks.{Long, length_whole, needed_ends, needed_short, needed_long, blocks_none, blocks_cut, blocks_whole, blocks_long}
use Rattle.program_run.specs.Definitions.{Progress, Started, Underway, Ended, opened, told_reports, taking, after}
use Rattle.program_run.specs.Runs.{desk_in}

-- nothing follows a refusal
pub after_ended : (r : Refusal) (d : List ℕ) (ws : List (List ℕ)) → after (Ended r d) ws ≡ Ended r d
unfolding after taking
after_ended r d [] = refl
after_ended r d (w ∷ ws) = after_ended r d ws

-- ---- a block of more than 512 words is refused, whatever its words

long-settings : (w : List ℕ) → 512 < length w → settings_ok w ≡ false
long-settings w h =
    no_true (settings_ok w) (λ e. let g = settings_give w e in omega (arith, g.sizes.words, g.sizes.nodes_to, g.sizes.shards_to))

long_row5 : (w : List ℕ) → 512 < length w → row5 w ≡ false
unfolding row5
long_row5 w h = and_fails_left (eqb (length w % 4) 0) (and_fails_right (leb 1 (length w)) (lt-leb (length w) 512 h))

-- what a block of more than 512 words leads to
long_refusal : Progress → Refusal
long_refusal (Started d) = refused 2
long_refusal (Underway σ x d) = first_of (entry_refusal (desk_ok d) σ x d (is_gathering x.phase)) (refused 5)
long_refusal (Ended r d) = r

long-report : (σ : List ℕ) (x : State) (d w : List ℕ) → 512 < length w → report_refusal σ x d w ≡ long_refusal (Underway σ x d)
unfolding long_refusal report_refusal refusal_beside message_refusal
long-report σ x d w h =
    let five : message_refusal Report σ w ≡ refused 5 = unless_false (row5 w) 5 _ (long_row5 w h) in
    let kept : Refusal = kept_refusal σ x.kept x.termination x.latest (contents_of w) in
    ap (first_of (entry_refusal (desk_ok d) σ x d (is_gathering x.phase)))
    (ap (λ (r : Refusal). first_of r kept) five ∙ first_refused (refused 5) kept refl)

refuses : (r : Refusal) → accepted (first_of r (refused 5)) ≡ false
unfolding first_of
refuses r = ⊎_elim (λ e. rw e) (λ e. rw e e) (either (accepted r))

next_long : (p : Progress) (w : List ℕ) → 512 < length w → taking p w ≡ Ended (long_refusal p) (desk_in p)
unfolding long_refusal desk_in taking opened told_reports
next_long (Started d) w h = rw (long-settings w h)
next_long (Underway σ x d) w h =
    let e : report_refusal σ x d w ≡ long_refusal (Underway σ x d) = long-report σ x d w h in
    let f : accepted (report_refusal σ x d w) ≡ false = ap accepted e ∙ refuses (entry_refusal (desk_ok d) σ x d (is_gathering x.phase)) in
    ap (λ (b : Bool). cond b (Underway σ (reported σ x d w).state (desk_after σ x d w)) (Ended (report_refusal σ x d w) d)) f
    ∙ ap (λ (r : Refusal). Ended r d) e
next_long (Ended r d) w h = refl

-- ---- the blocks of an input

-- a block of which all that is looked at has come, and what follows
pub after_block : (p : Progress) (b c : List ℕ) → length b ≡ needed b
    → after p (blocks (b ++ c)) ≡ after (taking p (whole_words (drop 4 b))) (blocks c)
unfolding after
after_block p b c e = ⊎_elim short long (lt_or_le (block_count b) 513)
  where
    size : 4 ≤ length b
    size = omega (arith, (needed_ends b).0)

    short : block_count b < 513 → after p (blocks (b ++ c)) ≡ after (taking p (whole_words (drop 4 b))) (blocks c)
    short m = ap (after p) (blocks_whole b c (e ∙ needed_short b size m))

    long : 513 ≤ block_count b → after p (blocks (b ++ c)) ≡ after (taking p (whole_words (drop 4 b))) (blocks c)
    long m =
        let n : length b ≡ 2056 = e ∙ needed_long b size m in
        let l : Long (blocks (b ++ c)) = blocks_long b c n m in
        let w : 512 < length (whole_words (drop 4 b)) = omega (arith, length_whole (drop 4 b), length-drop 4 b) in
        ap (after p) l.is ∙ ap (λ (q : Progress). after q l.rest) (next_long p l.first l.long)
        ∙ after_ended (long_refusal p) (desk_in p) l.rest
        ∙ sym (ap (λ (q : Progress). after q (blocks c)) (next_long p (whole_words (drop 4 b)) w) ∙ after_ended (long_refusal p) (desk_in p) (blocks c))

-- the end of an input: a block cut short, or not even a count
pub after_cut : (p : Progress) (b : List ℕ) → 4 ≤ length b → length b < needed b
    → after p (blocks (b ++ [])) ≡ taking p (whole_words (drop 4 b))
unfolding after
after_cut p b h m = ap (λ (l : List ℕ). after p (blocks l)) (append-nil b) ∙ ap (after p) (blocks_cut b h m)

pub after_none : (p : Progress) (b : List ℕ) → length b < 4 → after p (blocks (b ++ [])) ≡ p
unfolding after
after_none p b h = ap (λ (l : List ℕ). after p (blocks l)) (append-nil b) ∙ ap (after p) (blocks_none b h)

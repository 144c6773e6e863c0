-- What each step of a Run in memory leads to, over plain arguments.
use Rattle.std.specs.Prelude.{ℕ, ◌+◌, ◌-◌, ◌≤◌, ◌<◌, true, false, ◌≡◌, drop}
use Rattle.std.proofs.Common.{⊎_elim, ◌∙◌, arith, length-take, drop_of_length-le, take_all, take-add, length-take-le}
use mathlib.Core.List.{List, [], ◌++◌, append_assoc}
use Rattle.std.proofs.Math.Path.{refl, sym, ap, ap₂, subst}
use Rattle.std.proofs.Math.ListN.{length, take}
use Rattle.base_laws.specs.Bools.{either}
use Rattle.base_laws.specs.Definitions.{padded}
use Rattle.base_laws.specs.Tables.{part_front, part_end, length_padded}
use Rattle.base_laws.proofs.Tables.{front_padded}
use Rattle.settings_values.specs.Definitions.{settings_ok, Settings}
use Rattle.settings_values.specs.Laws.{settings_give}
use Rattle.base_ids.specs.declared.Refusal.{Refusal}
use Rattle.base_ids.specs.Definitions.{refused, accepted}
use Rattle.state_planner.specs.declared.State.{State}
use Rattle.state_planner.specs.declared.Answer.{Answer}
use Rattle.state_planner.specs.declared.Outcome.{Outcome}
use Rattle.state_planner.specs.declared.Decision.{Decision}
use Rattle.state_planner.specs.declared.Decided.{Decided}
use Rattle.state_planner.specs.Definitions.{report_refusal, decide_refusal, desk_ok, reported, desk_after, after_report, Decides, fresh}
use Rattle.report_views.specs.Definitions.{is_gathering}
use Rattle.state_planner.specs.EventLaws.{outcome_accepted, outcome_refused, entry_settings}
use Rattle.message_format.specs.Definitions.{contents_of}
use Rattle.program_blocks.specs.declared.Block.{Block}
use Rattle.program_blocks.specs.Definitions.{blocks, needed, whole_words, next_place, bytes_laid}
use Rattle.program_blocks.specs.Blocks.{length_whole, needed_ends}
use Rattle.program_blocks.specs.Held.{held}
use Rattle.program_blocks.specs.Intake.{Lacks, BytesCome, placed_waits, placed_whole, laid_none, gathered_laid, gathered_size, gathered_come, gathered_within, gathered_some, gathered_fed}
use Rattle.program_text.specs.Definitions.{number_line, Puts}
use Rattle.program_lines.specs.Lines.{number_length}
use Rattle.program_lines.specs.Definitions.{decision_text}
use Rattle.program_lines.specs.Decisions.{PutsDecision}
use Rattle.program_run.specs.declared.Stage.{Stage}
use Rattle.program_run.specs.declared.Stage.TheVariants.{Opening, Open, Closed}
use Rattle.program_run.specs.declared.Run.{Run}
use Rattle.program_run.specs.Definitions.{Progress, Underway, Ended, opened, told_reports, taking, after, Prints, RightSettings, progress_of, progress_at, ahead, ReadyRun, Feeds, Closes, Writes}
use Rattle.program_run.specs.RunLaws.{after_block, after_cut, after_none}
use Rattle.program_run.specs.Machine.{closed_by, pending_bytes, BytesGathered, Comes, TakesInBlock, Opens}

-- ---- the settings of a run

-- a run that is ended by a refusal is not open
closed_settled : (run : Run) (x : Refusal) → RightSettings run → RightSettings (closed_by run x)
closed_settled run x s = (s.0, λ h. absurd (let z : ◌≡◌ {A = ℕ} 0 1 = cc in omega arith))

-- the settings as they are lent
pub settled_right : (run : Run) → RightSettings run → run.stage ≡ Open → Settings (take (run.words - 0) run.settings)
settled_right run s h = subst Settings (sym (part_front run.words run.settings)) (s.1 h)

-- ---- a report

-- accepted and refused, by the answer
told_accepted : (σ : List ℕ) (x : State) (d w : List ℕ) → (reported σ x d w).answer ≡ Answer.Accepted
    → told_reports σ x d w ≡ Underway σ (reported σ x d w).state (desk_after σ x d w)
unfolding told_reports reported
told_accepted σ x d w h =
    ⊎_elim (λ e. rw e)
    (λ e.
    let a = ap (λ (o : Outcome). o.answer) (outcome_refused (report_refusal σ x d w) x (after_report σ x (contents_of w)) e) in
    let z : ◌≡◌ {A = ℕ} 0 1 = cc in
    absurd (omega arith))
    (either (accepted (report_refusal σ x d w)))

told_refused : (σ : List ℕ) (x : State) (d w : List ℕ) (r : Refusal) → (reported σ x d w).answer ≡ Answer.Refused r
    → told_reports σ x d w ≡ Ended r d
unfolding told_reports reported
told_refused σ x d w r h =
    ⊎_elim
    (λ e.
    let a = ap (λ (o : Outcome). o.answer) (outcome_accepted (report_refusal σ x d w) x (after_report σ x (contents_of w)) e) in
    let z : ◌≡◌ {A = ℕ} 0 1 = cc in
    absurd (omega arith))
    (λ e.
    let a = ap (λ (o : Outcome). o.answer) (outcome_refused (report_refusal σ x d w) x (after_report σ x (contents_of w)) e) in
    let s : report_refusal σ x d w ≡ r = cc in
    rw e (ap (λ (q : Refusal). Ended q d) s))
    (either (accepted (report_refusal σ x d w)))

-- a refused report leaves the desk
desk_refused : (σ : List ℕ) (x : State) (d w : List ℕ) (r : Refusal) → (reported σ x d w).answer ≡ Answer.Refused r → desk_after σ x d w ≡ d
unfolding desk_after reported
desk_refused σ x d w r h =
    ⊎_elim
    (λ e.
    let a = ap (λ (o : Outcome). o.answer) (outcome_accepted (report_refusal σ x d w) x (after_report σ x (contents_of w)) e) in
    let z : ◌≡◌ {A = ℕ} 0 1 = cc in
    absurd (omega arith))
    (λ e. rw e)
    (either (accepted (report_refusal σ x d w)))

module _ (run : Run) (d : List ℕ) where
  -- the stage of a run tells what it has come to
  progress_is : (s : Stage) → run.stage ≡ s → progress_of run d ≡ progress_at s (take run.words run.settings) run.state d
  progress_is s h = ap (λ (k : Stage). progress_at k (take run.words run.settings) run.state d) h

  -- a report that is accepted, and one that is refused
  module _ (w : List ℕ) (o : Outcome) (e : List ℕ) (h : run.stage ≡ Open) (settled : RightSettings run)
      (given : o ≡ reported (take (run.words - 0) run.settings) run.state d w)
      (desk : e ≡ desk_after (take (run.words - 0) run.settings) run.state d w) where
    own : o ≡ reported (take run.words run.settings) run.state d w
    own = given ∙ ap (λ (σ : List ℕ). reported σ run.state d w) (part_front run.words run.settings)

    told_next : taking (progress_of run d) w ≡ told_reports (take run.words run.settings) run.state d w
    unfolding progress_at taking
    told_next = ap (λ (p : Progress). taking p w) (progress_is Open h)

    pub report_accepted : o.answer ≡ Answer.Accepted
        → TakesInBlock run d w (record { stage = run.stage; state = o.state; settings = run.settings; words = run.words; pending = run.pending }) e
    unfolding progress_at
    report_accepted a =
        record {
          leads =
              ap (λ (k : Stage). progress_at k (take run.words run.settings) o.state e) h
              ∙ ap₂ (Underway (take run.words run.settings)) (ap (λ (p : Outcome). p.state) own)
              (desk ∙ ap (λ (σ : List ℕ). desk_after σ run.state d w) (part_front run.words run.settings))
              ∙ sym (told_next ∙ told_accepted (take run.words run.settings) run.state d w (sym (ap (λ (p : Outcome). p.answer) own) ∙ a));
          pending = refl;
          settled = settled;
        }

    pub report_refused : (x : Refusal) (r : Run) → o.answer ≡ Answer.Refused x → r ≡ closed_by run x → TakesInBlock run d w r e
    unfolding progress_at
    report_refused x r a c =
        subst (λ (s : Run). TakesInBlock run d w s e) (sym c)
        (record {
          leads =
              ap (Ended x)
              (desk ∙ desk_refused (take (run.words - 0) run.settings) run.state d w x (sym (ap (λ (p : Outcome). p.answer) given) ∙ a))
              ∙ sym (told_next ∙ told_refused (take run.words run.settings) run.state d w x (sym (ap (λ (p : Outcome). p.answer) own) ∙ a));
          pending = refl;
          settled = closed_settled run x settled;
        })

-- ---- the settings

pub settings_size : (w : List ℕ) → settings_ok w ≡ true → length w ≤ 52
settings_size w h = let g = settings_give w h in omega (arith, g.sizes.words, g.sizes.nodes_to, g.sizes.shards_to)

module _ (run : Run) (w : List ℕ) where
  pub open_refused : (r : Run) → RightSettings run → settings_ok w ≡ false → r ≡ closed_by run (refused 2) → Opens run w r
  unfolding progress_at opened
  open_refused r settled h c =
      subst (λ (s : Run). Opens run w s) (sym c) (record { leads = λ d. rw h; pending = refl; settled = closed_settled run (refused 2) settled })

  pub open_accepted : (x : State) (table : List ℕ) → settings_ok w ≡ true → x ≡ fresh → table ≡ padded 52 w
      → Opens run w (record { stage = Open; state = x; settings = table; words = length w; pending = run.pending })
  unfolding progress_at opened
  open_accepted x table h e f =
      let size : length w ≤ 52 = settings_size w h in
      let same : take (length w) table ≡ w = ap (take (length w)) f ∙ front_padded 52 (length w) w size refl in
      record {
        leads = λ d. rw h (ap₂ (λ (σ : List ℕ) (y : State). Underway σ y d) same e);
        pending = refl;
        settled = (omega (arith, length_padded 52 w, ap length f), λ _. subst Settings (sym same) (settings_give w h));
      }

-- ---- a block

module _ (run : Run) (d w : List ℕ) where
  pub takes_first : (r : Run) → run.stage ≡ Opening → Opens run w r → TakesInBlock run d w r d
  unfolding progress_at taking
  takes_first r h o =
      record { leads = o.leads d ∙ sym (ap (λ (p : Progress). taking p w) (progress_is run d Opening h)); pending = o.pending; settled = o.settled }

  pub takes_none : (x : Refusal) → run.stage ≡ Closed x → RightSettings run → TakesInBlock run d w run d
  unfolding progress_at taking
  takes_none x h settled =
      let e : progress_of run d ≡ Ended x d = progress_is run d (Closed x) h in
      record { leads = e ∙ sym (ap (λ (p : Progress). taking p w) e); pending = refl; settled = settled }

-- the words of the block, as they are lent
pub takes_as : (run : Run) (d v w : List ℕ) (r : Run) (e : List ℕ) → v ≡ w → TakesInBlock run d v r e → TakesInBlock run d w r e
takes_as run d v w r e h t = subst (λ (x : List ℕ). TakesInBlock run d x r e) h t

pub block_front : (b : Block) (bytes : List ℕ) → length bytes ≤ 2052 → b ≡ held bytes → take (b.len - 0) b.table ≡ whole_words bytes
block_front b bytes h e =
    let size : length (whole_words bytes) ≤ 513 = omega (arith, length_whole bytes) in
    part_front b.len b.table
    ∙ ap (λ (x : Block). take x.len x.table) e
    ∙ front_padded 513 (length (whole_words bytes)) (whole_words bytes) size refl

pub block_fits : (b : Block) (bytes : List ℕ) → length bytes ≤ 2052 → b ≡ held bytes → b.len ≤ length b.table
block_fits b bytes h e =
    omega (arith, length_whole bytes, ap (λ (x : Block). x.len) e, ap (λ (x : Block). length x.table) e, length_padded 513 (whole_words bytes))

-- the bytes of a block after its count
pub comes_size : (run : Run) (bytes : List ℕ) (end : ℕ) → Comes run bytes end → length (take (end - 4) (drop 4 bytes)) ≤ 2052
comes_size run bytes end c = omega (arith, c.room, c.within, length-take (end - 4) (drop 4 bytes))

-- ---- the block that is coming in

module _ (run : Run) (bytes : List ℕ) (ready : ReadyRun run bytes) where
  pub pending_room : run.pending < length bytes
  pending_room = omega (arith, (needed_ends (take run.pending bytes)).1)

  come_size : length (take run.pending bytes) ≡ run.pending
  come_size = length-take-le run.pending bytes (omega (arith, pending_room))

  pub ready_lacks : Lacks bytes run.pending
  ready_lacks = record { room = ready.room; coming = ready.coming }

module _ (run : Run) (bytes : List ℕ) (end : ℕ) (gathered : BytesGathered run bytes end) where
  pub gathered_room : end ≤ length bytes
  gathered_room = omega (arith, gathered.room, gathered.within, (needed_ends (take end bytes)).1)

  -- the block is not whole yet
  pub settle_waits : (d : List ℕ) → end < needed (take (end - 0) bytes) → Feeds (pending_bytes run end) d bytes [] (pending_bytes run end) d bytes
  settle_waits d h =
      record {
        ready =
            record {
              room = gathered.room;
              coming = subst (λ (l : List ℕ). end < needed l) (part_front end bytes) h;
              settled = gathered.settled;
            };
        same = λ rest. refl;
      }

  -- where the next byte stands
  pub settle_waits_at : end < needed (take (end - 0) bytes) → end ≡ next_place bytes end
  settle_waits_at h = sym (placed_waits bytes end (subst (λ (l : List ℕ). end < needed l) (part_front end bytes) h))

  pub settle_takes_at : (n : ℕ) → needed (take (end - 0) bytes) ≤ end → n ≡ 0 → n ≡ next_place bytes end
  settle_takes_at n h e = e ∙ sym (placed_whole bytes end (subst (λ (l : List ℕ). needed l ≤ end) (part_front end bytes) h))

  -- the block is whole, and is taken
  module _ (h : needed (take (end - 0) bytes) ≤ end) where
    whole : length (take end bytes) ≡ needed (take end bytes)
    whole =
        let e : needed (take (end - 0) bytes) ≡ needed (take end bytes) = ap needed (part_front end bytes) in
        length-take-le end bytes gathered_room ∙ omega (arith, gathered.within)

    pub whole_comes : Comes run bytes end
    whole_comes =
        record {
          room = gathered.room;
          count = omega (arith, whole, length-take-le end bytes gathered_room, (needed_ends (take end bytes)).0);
          within = gathered_room;
          settled = gathered.settled;
        }

    pub settle_takes : (d : List ℕ) (r : Run) (e : List ℕ) → TakesInBlock (pending_bytes run 0) d (whole_words (take (end - 4) (drop 4 bytes))) r e
        → Feeds (pending_bytes run end) d bytes [] r e bytes
    unfolding ahead
    settle_takes d r e t =
        let none : r.pending ≡ 0 = t.pending in
        record {
          ready =
              record {
                room = gathered.room;
                coming = omega (arith, none, (needed_ends (take r.pending bytes)).0);
                settled = t.settled;
              };
          same =
              λ rest.
              ap₂ (λ (p : Progress) (k : ℕ). after p (blocks (take k bytes ++ rest)))
              (t.leads ∙ ap (λ (l : List ℕ). taking (progress_of run d) (whole_words l)) (part_end 4 end bytes)) none
              ∙ sym (after_block (progress_of run d) (take end bytes) rest whole);
        }

-- ---- bytes that are gathered

module _ (run : Run) (bytes fed : List ℕ) (i : ℕ) (now : List ℕ) (end : ℕ) (ready : ReadyRun run bytes) (g : BytesCome bytes run.pending fed i now end) where
  pub gathers_gathered : BytesGathered run now end
  gathers_gathered =
      record {
        room = gathered_size bytes run.pending fed i now end (ready_lacks run bytes ready) g;
        within = gathered_within bytes run.pending fed i now end (ready_lacks run bytes ready) g;
        settled = ready.settled;
      }

  -- a byte at least, and no more than were fed
  pub gathers_on : i < length fed → (run.pending < end) × (i + (end - run.pending) ≤ length fed)
  gathers_on h =
      (gathered_some bytes run.pending fed i now end (ready_lacks run bytes ready) g h, gathered_fed bytes run.pending fed i now end (ready_lacks run bytes ready) g (omega arith))

  -- the memory for blocks, before and after
  pub gathers_laid : (n : ℕ) → n ≡ next_place now end → bytes_laid run.pending bytes (drop i fed) ≡ bytes_laid n now (drop (i + (end - run.pending)) fed)
  gathers_laid n e =
      gathered_laid bytes run.pending fed i now end (ready_lacks run bytes ready) g
      ∙ ap (λ (k : ℕ). bytes_laid k now (drop (i + (end - run.pending)) fed)) (sym e)

  -- the block that they are of is settled: they are fed
  pub gathers_feed : (d : List ℕ) (r : Run) (e b : List ℕ) → Feeds (pending_bytes run end) d now [] r e b
      → Feeds run d bytes (take (end - run.pending) (drop i fed)) r e b
  unfolding ahead
  gathers_feed d r e b f =
      record {
        ready = f.ready;
        same =
            λ rest.
            f.same rest
            ∙ ap (λ (l : List ℕ). after (progress_of run d) (blocks l))
            (ap (λ (l : List ℕ). l ++ rest) (gathered_come bytes run.pending fed i now end (ready_lacks run bytes ready) g)
            ∙ append_assoc (take run.pending bytes) (take (end - run.pending) (drop i fed)) rest);
      }

-- ---- bytes one after another

module _ {run : Run} {d bytes : List ℕ} where
  pub feeds_none : ReadyRun run bytes → Feeds run d bytes [] run d bytes
  feeds_none ready = record { ready = ready; same = λ rest. refl }

  pub feeds_then : {s t : List ℕ} {r u : Run} {e f b c : List ℕ} → Feeds run d bytes s r e b → Feeds r e b t u f c
      → Feeds run d bytes (s ++ t) u f c
  feeds_then {s} {t} p q =
      record {
        ready = q.ready;
        same = λ rest. q.same rest ∙ p.same (t ++ rest) ∙ ap (ahead run d bytes) (sym (append_assoc s t rest));
      }

  pub feeds_more : (fed : List ℕ) (i n : ℕ) {r s : Run} {e f b c : List ℕ} → Feeds run d bytes (take i fed) r e b
      → Feeds r e b (take n (drop i fed)) s f c → Feeds run d bytes (take (i + n) fed) s f c
  feeds_more fed i n {s = s} {f = f} {c = c} p q =
      subst (λ (x : List ℕ). Feeds run d bytes x s f c) (sym (take-add i n fed)) (feeds_then p q)

  pub feeds_all : (fed : List ℕ) (i : ℕ) {r : Run} {e b : List ℕ} → length fed ≤ i
      → Feeds run d bytes (take i fed) r e b → Feeds run d bytes fed r e b
  feeds_all fed i {r} {e} {b} l p = subst (λ (x : List ℕ). Feeds run d bytes x r e b) (take_all i fed l) p

-- all are bytesLaid
pub laid_all : (at n i : ℕ) (bytes fed after : List ℕ) → length fed ≤ i → bytes_laid at bytes fed ≡ bytes_laid n after (drop i fed) → after ≡ bytes_laid at bytes fed
laid_all at n i bytes fed after l e = sym (e ∙ ap (bytes_laid n after) (drop_of_length-le fed l) ∙ laid_none n after)

-- ---- the end of the input

module _ (run : Run) (d bytes : List ℕ) (ready : ReadyRun run bytes) where
  pub close_none : run.pending < 4 → Closes run d bytes run d
  unfolding ahead
  close_none h =
      record { leads = sym (after_none (progress_of run d) (take run.pending bytes) (omega (arith, come_size run bytes ready))); settled = ready.settled }

  pub cut_comes : 4 ≤ run.pending → Comes run bytes run.pending
  cut_comes h = record { room = ready.room; count = h; within = omega (arith, pending_room run bytes ready); settled = ready.settled }

  pub close_cut : 4 ≤ run.pending → (r : Run) (e : List ℕ) → TakesInBlock (pending_bytes run 0) d (whole_words (take (run.pending - 4) (drop 4 bytes))) r e
      → Closes run d bytes r e
  unfolding ahead
  close_cut h r e t =
      let s = come_size run bytes ready in
      let c = ready.coming in
      record {
        leads =
            t.leads ∙ ap (λ (l : List ℕ). taking (progress_of run d) (whole_words l)) (part_end 4 run.pending bytes)
            ∙ sym (after_cut (progress_of run d) (take run.pending bytes) (omega arith) (omega arith));
        settled = t.settled;
      }

-- ---- what is printed

module _ (run : Run) (d out after : List ℕ) (n : ℕ) where
  pub writes_opening : run.stage ≡ Opening → Puts out 0 (number_line (refused 2)) after n → Writes (progress_of run d) out after n
  unfolding progress_at Prints
  writes_opening h p =
      record {
        text = number_line (refused 2);
        prints = subst (λ (q : Progress). Prints q (number_line (refused 2))) (sym (progress_is run d Opening h)) refl;
        fits = number_length (refused 2);
        puts = p;
      }

  pub writes_closed : (r : Refusal) → run.stage ≡ Closed r → Puts out 0 (number_line r) after n → Writes (progress_of run d) out after n
  unfolding progress_at Prints
  writes_closed r h p =
      record {
        text = number_line r;
        prints = subst (λ (q : Progress). Prints q (number_line r)) (sym (progress_is run d (Closed r) h)) refl;
        fits = number_length r;
        puts = p;
      }

  -- the text of a decision
  pub writes_decision : (r : Decided) → run.stage ≡ Open → Decides (take (run.words - 0) run.settings) run.state d r
      → PutsDecision (take (run.words - 0) run.settings) r.decision r.state.plan out after n → Writes (progress_of run d) out after n
  unfolding progress_at Prints
  writes_decision r h decides says =
      record {
        text = decision_text (take (run.words - 0) run.settings) r.decision r.state.plan;
        prints =
            subst (λ (q : Progress). Prints q (decision_text (take (run.words - 0) run.settings) r.decision r.state.plan))
            (sym (progress_is run d Open h))
            (record {
              decided = r;
              decides = subst (λ (σ : List ℕ). Decides σ run.state d r) own decides;
              says = ap (λ (σ : List ℕ). decision_text σ r.decision r.state.plan) own;
            });
        fits = says.fits;
        puts = says.puts;
      }
    where
      own : take (run.words - 0) run.settings ≡ take run.words run.settings
      own = part_front run.words run.settings

-- where decide plans the settings are right
pub planned_settings : (σ : List ℕ) (x : State) (d : List ℕ) (r : Decided) → Decides σ x d r → r.decision ≡ Decision.Planned → Settings σ
unfolding decide_refusal
planned_settings σ x d r decides e =
    ⊎_elim (λ h. entry_settings (desk_ok d) σ x d (is_gathering x.phase) h)
    (λ h.
    let a = ap (λ (q : Decided). q.decision) (decides.refused h) in
    let z : ◌≡◌ {A = ℕ} 0 1 = cc in
    absurd (omega arith))
    (either (accepted (decide_refusal σ x d)))

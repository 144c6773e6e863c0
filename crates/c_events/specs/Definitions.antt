-- What contracts cite, each definition after those that it builds on. Laws stand in the files beside this one.
use Rattle.std.specs.Prelude.{ℕ, ◌+◌, List, [], ◌∷◌, eqb, length, true, false, Bool, ◌≡◌}
use Rattle.base_laws.specs.Definitions.{padded}
use Rattle.base_ids.specs.declared.Refusal.{Refusal}
use Rattle.base_ids.specs.Definitions.{none, unless, accepted}
use Rattle.base_roles.specs.Definitions.{role_of, may_read}
use Rattle.base_bytes.specs.Definitions.{bytes_of}
use Rattle.base_lent.specs.Definitions.{words_in, answer_word, bytes_left, planned_word, wait_word, with_length}
use Rattle.report_views.specs.Definitions.{number_of, value_of}
use Rattle.plan_page.specs.declared.Page.{Page}
use Rattle.plan_page.specs.Definitions.{PageOf}
use Rattle.game_rules.specs.declared.Lead.{Lead}
use Rattle.game_rules.specs.declared.Lead.TheVariants.{Taking, Passing}
use Rattle.game_rules.specs.declared.Winner.{Winner}
use Rattle.game_rules.specs.declared.Winner.TheVariants.{Crew, Outage}
use Rattle.state_planner.specs.declared.State.{State}
use Rattle.state_planner.specs.declared.Outcome.{Outcome}
use Rattle.state_planner.specs.Definitions as Definitions
use Rattle.state_planner.specs.Definitions.{desk_ok, check_refusal, dropped, fetched_of, prepared_of, reported, desk_after, Decides, decide_refusal, DecidesWithin, order_refusal}
use Rattle.state_planner.specs.declared.Decision.{Decision}
use Rattle.state_planner.specs.declared.Decision.TheVariants.{Planned, Wait, Refused}
use Rattle.state_planner.specs.declared.Decided.{Decided}
use Rattle.state_planner.specs.declared.DecidedWithin.{DecidedWithin}
use Rattle.state_order.specs.Definitions.{ordered, order_buffer}
use Rattle.state_game.specs.declared.Played.{Played}
use Rattle.state_game.specs.declared.Played.TheVariants.{Won, Unplayed}
use Rattle.state_game.specs.Definitions.{Plays}
use Rattle.state_page.specs.Definitions.{sound_refusal}
use Rattle.state_preview.specs.declared.Warning.{Warning}
use Rattle.state_preview.specs.Definitions.{Previews, Warns}
use Rattle.c_state_words.specs.Definitions.{state_words, is_state, page_words}
use Rattle.c_state.specs.Definitions.{by_planner, state_lent, called, event_answer, event_leaves, event_refused, entry_refused, lengths_ok}
use Rattle.c_events.specs.declared.Event.{Event}
use Rattle.c_events.specs.declared.Event.TheVariants.{Drop, Fetched, Prepared}

-- ---- What the calls fresh, check_state, drop, fetched and prepared answer to a role, and the state's bytes afterwards.

-- row 15, and row 3 where the bytes are not 160 words
unfoldable pub fresh_refused : ℕ → List ℕ → Refusal
fresh_refused role state = unless (by_planner role) 15 (unless (eqb (length state) 640) 3 none)

unfoldable pub fresh_answer : ℕ → List ℕ → ℕ
fresh_answer role state = answer_word (fresh_refused role state) 0

unfoldable pub fresh_leaves : ℕ → List ℕ → List ℕ
fresh_leaves role state = bytes_left (fresh_refused role state) (bytes_of (state_words Definitions.fresh)) state

-- rows 1, 2, 15 and 3: 0 where the bytes are a state that is sound with the desk, in whatever phase it is
unfoldable pub check_state_answer : ℕ → List ℕ → List ℕ → List ℕ → ℕ
check_state_answer role settings state desk =
    (called (by_planner role) (desk_ok (words_in desk)) settings state (check_refusal (words_in settings) (state_lent state) (words_in desk))).code

-- the outcome of an event that names a node
abbrev pub happened : Event → List ℕ → State → List ℕ → ℕ → Outcome
happened Drop σ x d n = dropped σ x d n
happened Fetched σ x d n = fetched_of σ x d n
happened Prepared σ x d n = prepared_of σ x d n

-- the same, of lent bytes
unfoldable pub taken : Event → List ℕ → List ℕ → List ℕ → ℕ → Outcome
taken event settings state desk node = happened event (words_in settings) (state_lent state) (words_in desk) node

module _ (role : ℕ) (event : Event) (settings state desk : List ℕ) (node : ℕ) where
  unfoldable pub take_answer : ℕ
  take_answer = event_answer role settings state desk (taken event settings state desk node)

  unfoldable pub take_leaves : List ℕ
  take_leaves = event_leaves role settings state desk (taken event settings state desk node)

-- ---- What the call report answers to a role, and the state's and the desk's bytes afterwards.

module _ (settings state desk message : List ℕ) where
  -- the outcome of the report
  unfoldable pub report_taken : Outcome
  report_taken = reported (words_in settings) (state_lent state) (words_in desk) (words_in message)

module _ (role : ℕ) (settings state desk message : List ℕ) where
  unfoldable pub report_answer : ℕ
  report_answer = event_answer role settings state desk (report_taken settings state desk message)

  -- the state's bytes
  unfoldable pub report_leaves : List ℕ
  report_leaves = event_leaves role settings state desk (report_taken settings state desk message)

  -- the desk's bytes
  unfoldable pub report_desk : List ℕ
  report_desk =
      bytes_left (event_refused role settings state desk (report_taken settings state desk message))
      (bytes_of (desk_after (words_in settings) (state_lent state) (words_in desk) (words_in message))) desk

-- ---- What the call decide answers to a role, and the state's bytes afterwards: what the outcome of decide says, of which there is one.

-- the answer to a decision
abbrev pub decision_word : Decision → ℕ
decision_word Planned = planned_word
decision_word (Wait reason) = wait_word (number_of reason) (value_of reason)
decision_word (Refused r) = r.code

-- the state's bytes afterwards: only a plan changes them
abbrev pub decision_leaves : Decision → State → List ℕ → List ℕ
decision_leaves Planned x state = bytes_of (state_words x)
decision_leaves (Wait reason) x state = state
decision_leaves (Refused r) x state = state

-- rows 1, 2, 15 and 3 before the state is looked at
unfoldable pub decide_entry : ℕ → List ℕ → List ℕ → List ℕ → Refusal
decide_entry role settings state desk = entry_refused (by_planner role) (desk_ok (words_in desk)) settings (is_state (words_in state))

-- the answer and the bytes are those of decide's outcome
pub record ByOutcome (settings state desk : List ℕ) (answer : ℕ) (left : List ℕ) : Type 0 where
  pub outcome : Decided
  pub decides : Decides (words_in settings) (state_lent state) (words_in desk) outcome
  pub answers : answer ≡ decision_word outcome.decision
  pub leaves : left ≡ decision_leaves outcome.decision outcome.state state

pub record DecideCall (role : ℕ) (settings state desk : List ℕ) (answer : ℕ) (left : List ℕ) : Type 0 where
  pub refused : accepted (decide_entry role settings state desk) ≡ false → (answer ≡ (decide_entry role settings state desk).code) × (left ≡ state)
  pub decided : accepted (decide_entry role settings state desk) ≡ true → ByOutcome settings state desk answer left

-- ---- What the call decide with improving rounds answers to a role, and the state's bytes afterwards: what the outcome says, of which there is one.

-- the answer to a decision: of a plan, with its gap
abbrev pub within_word : Decision → ℕ → ℕ
within_word Planned gap = planned_word + gap
within_word (Wait reason) gap = wait_word (number_of reason) (value_of reason)
within_word (Refused r) gap = r.code

-- the answer and the bytes are those of the outcome of n rounds
pub record ByRounds (settings state desk : List ℕ) (n answer : ℕ) (left : List ℕ) : Type 0 where
  pub outcome : DecidedWithin
  pub decides : DecidesWithin (words_in settings) (state_lent state) (words_in desk) n outcome
  pub answers : answer ≡ within_word outcome.decision outcome.gap
  pub leaves : left ≡ decision_leaves outcome.decision outcome.state state

pub record WithinCall (role : ℕ) (settings state desk : List ℕ) (n answer : ℕ) (left : List ℕ) : Type 0 where
  pub refused : accepted (decide_entry role settings state desk) ≡ false → (answer ≡ (decide_entry role settings state desk).code) × (left ≡ state)
  pub decided : accepted (decide_entry role settings state desk) ≡ true → ByRounds settings state desk n answer left

-- ---- What the call order answers to a role, and the buffer's bytes afterwards.

module _ (role : ℕ) (settings state desk : List ℕ) (node : ℕ) (buffer : List ℕ) where
  unfoldable pub order_refused : Refusal
  order_refused =
      called (by_planner role) (lengths_ok desk buffer) settings state
      (order_refusal (words_in settings) (state_lent state) (words_in desk) node (words_in buffer))

  -- the length is that of the order
  unfoldable pub order_answer : ℕ
  order_answer =
      answer_word order_refused (with_length (ordered (words_in settings) (state_lent state) (words_in desk) node (words_in buffer)).length)

  -- the order, then zeros
  unfoldable pub order_leaves : List ℕ
  order_leaves =
      bytes_left order_refused (bytes_of (order_buffer (words_in settings) (state_lent state) (words_in desk) node (words_in buffer))) buffer

-- ---- What the page call answers to a role, and the buffer's bytes afterwards: those of the subgroup's page, of which there is one.

-- the word is of a role that may read the page of subgroup g
abbrev pub readable : ℕ → ℕ → Bool
readable role g = may_read (role_of role) g

-- rows 1 (desk or buffer), 2, 15 and 3
unfoldable pub page_refused : ℕ → List ℕ → List ℕ → List ℕ → ℕ → List ℕ → Refusal
page_refused role settings state desk g buffer =
    called (readable role g) (lengths_ok desk buffer) settings state (sound_refusal (words_in settings) (state_lent state) (words_in desk))

-- p is the page of subgroup g of a state x beside a desk d
abbrev pub PageAt : List ℕ → State → List ℕ → ℕ → Page → Type 0
PageAt σ x d g p = PageOf σ x.phase x.kept x.termination x.held d x.plan g p

-- the answer is the page's length, and the bytes are the page's
pub record ByPage (settings state desk : List ℕ) (g : ℕ) (answer : ℕ) (left : List ℕ) : Type 0 where
  pub page : Page
  pub shows : PageAt (words_in settings) (state_lent state) (words_in desk) g page
  pub answers : answer ≡ with_length 72
  pub leaves : left ≡ bytes_of (page_words page)

pub record PageCall (role : ℕ) (settings state desk : List ℕ) (g : ℕ) (buffer : List ℕ) (answer : ℕ) (left : List ℕ) : Type 0 where
  pub refused : accepted (page_refused role settings state desk g buffer) ≡ false
      → (answer ≡ (page_refused role settings state desk g buffer).code) × (left ≡ buffer)
  pub shown : accepted (page_refused role settings state desk g buffer) ≡ true → ByPage settings state desk g answer left

-- ---- What the calls preview and preview_all answer to a role, and the buffer's bytes afterwards: what the outcome of the preview says, of which
-- there is one.

-- the buffer's bytes afterwards: for a plan and for a wait those of the state that would follow, then zeros
abbrev pub preview_leaves : Decision → State → List ℕ → List ℕ
preview_leaves Planned x buffer = bytes_of (padded 512 (state_words x))
preview_leaves (Wait reason) x buffer = bytes_of (padded 512 (state_words x))
preview_leaves (Refused r) x buffer = buffer

-- rows 1 (desk or buffer), 2, 15 and 3 before the state is looked at
unfoldable pub preview_entry : ℕ → List ℕ → List ℕ → List ℕ → List ℕ → Refusal
preview_entry role settings state desk buffer = entry_refused (by_planner role) (lengths_ok desk buffer) settings (is_state (words_in state))

-- the answer and the bytes are those of the preview's outcome
pub record ByPreview (settings state desk : List ℕ) (node : ℕ) (buffer : List ℕ) (answer : ℕ) (left : List ℕ) : Type 0 where
  pub outcome : Decided
  pub previews : Previews (words_in settings) (state_lent state) (words_in desk) node outcome
  pub answers : answer ≡ decision_word outcome.decision
  pub leaves : left ≡ preview_leaves outcome.decision outcome.state buffer

pub record PreviewCall (role : ℕ) (settings state desk : List ℕ) (node : ℕ) (buffer : List ℕ) (answer : ℕ) (left : List ℕ) : Type 0 where
  pub refused : accepted (preview_entry role settings state desk buffer) ≡ false
      → (answer ≡ (preview_entry role settings state desk buffer).code) × (left ≡ buffer)
  pub previewed : accepted (preview_entry role settings state desk buffer) ≡ true → ByPreview settings state desk node buffer answer left

-- rows 1 (desk or buffer), 2, 15, 3 and 4
unfoldable pub warn_refused : ℕ → List ℕ → List ℕ → List ℕ → List ℕ → Refusal
warn_refused role settings state desk buffer =
    called (by_planner role) (lengths_ok desk buffer) settings state (decide_refusal (words_in settings) (state_lent state) (words_in desk))

-- the answer is the length 1, and the bytes are those of the mask, then zeros
pub record ByWarning (settings state desk : List ℕ) (answer : ℕ) (left : List ℕ) : Type 0 where
  pub warning : Warning
  pub warns : Warns (words_in settings) (state_lent state) (words_in desk) warning
  pub answers : answer ≡ with_length 1
  pub leaves : left ≡ bytes_of (padded 512 (warning.lost ∷ []))

pub record WarnCall (role : ℕ) (settings state desk buffer : List ℕ) (answer : ℕ) (left : List ℕ) : Type 0 where
  pub refused : accepted (warn_refused role settings state desk buffer) ≡ false
      → (answer ≡ (warn_refused role settings state desk buffer).code) × (left ≡ buffer)
  pub warned : accepted (warn_refused role settings state desk buffer) ≡ true → ByWarning settings state desk answer left

-- ---- What the call game answers to a role: a refusal's number, or a word of class 5 that says who wins. It changes no lent byte.

-- 256 and the outage's first move
abbrev pub lead_word : Lead → ℕ
lead_word (Taking n) = 83886336 + n.0
lead_word Passing = 83886368

-- class 5: 0 where the crew can hold, or the outage's first move
abbrev pub winner_word : Winner → ℕ
winner_word Crew = 83886080
winner_word (Outage f) = lead_word f

abbrev pub played_word : Played → ℕ
played_word (Won w) = winner_word w
played_word (Unplayed r) = r.code

-- the answer is that of the game's outcome
pub record ByGame (settings state desk : List ℕ) (held rounds : ℕ) (answer : ℕ) : Type 0 where
  pub outcome : Played
  pub plays : Plays (words_in settings) (state_lent state) (words_in desk) held rounds outcome
  pub answers : answer ≡ played_word outcome

-- rows 1, 2, 15 and 3 before the state is looked at, as decide's, and then the game's own
pub record GameCall (role : ℕ) (settings state desk : List ℕ) (held rounds : ℕ) (answer : ℕ) : Type 0 where
  pub refused : accepted (decide_entry role settings state desk) ≡ false → answer ≡ (decide_entry role settings state desk).code
  pub played : accepted (decide_entry role settings state desk) ≡ true → ByGame settings state desk held rounds answer

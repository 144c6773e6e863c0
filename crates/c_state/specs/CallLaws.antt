-- Laws of the calls: bytes that are a state, the settings' check, the lengths, and what a call answers and leaves before its event
-- and after it.
-- ---- the state's words
-- whether words are a state
-- ---- the settings
-- right settings are looked at whole
-- ---- before the event, and after it
-- an entry by its parts
-- the entry of a call that is lent a desk
-- ---- a call whose event hands back an outcome
use Rattle.std.specs.Prelude.{◌≡◌, Bool, ◌&&◌, List, ℕ, ◌-◌, ◌≤◌, eqb, drop, Option, is_some, unwrap_or}
use Rattle.base_laws.specs.Options.{some_if}
use Rattle.std.proofs.Math.Path.{sym, ap}
use Rattle.std.proofs.Common.{ap₂, ◌∙◌, ⊎_elim, arith}
use Rattle.std.proofs.Math.Bool.{true, false}
use Rattle.std.proofs.Math.ListN.{length, take}
use borrow.Author.Tests.{eqb-true, eq-eqb, ne_eqb}
use Rattle.base_laws.specs.Bools.{either, no_true, and_left, and_right}
use Rattle.base_laws.specs.Tables.{length_padded}
use Rattle.base_laws.proofs.Tables.{front_padded}
use Rattle.base_bytes.specs.Definitions.{bytes_of}
use Rattle.base_bytes.specs.Words.{length_words}
use Rattle.base_lent.specs.Definitions.{words_in}
use Rattle.base_lent.specs.Lent.{count_within, words_within, within_le, bytes_of_words, length-test, HoldsSettings}
use Rattle.base_lent.specs.Answers.{Told, told_refused}
use Rattle.base_ids.specs.declared.Refusal.{Refusal}
use Rattle.base_ids.specs.Definitions.{none, accepted, unless}
use Rattle.base_ids.specs.Refusals.{accepted_none, unless_ok, unless_rest, first_none, first_refused}
use Rattle.settings_values.specs.Definitions.{settings_ok}
use Rattle.c_messages.specs.Limits.{settings_within, settings_same}
use Rattle.state_planner.specs.declared.State.{State}
use Rattle.state_planner.specs.declared.Outcome.{Outcome}
use Rattle.state_planner.specs.Definitions.{fresh, desk_ok}
use Rattle.c_state_words.specs.Definitions.{state_words, is_state}
use Rattle.c_state_words.specs.StateWords.{decoded}
use Rattle.c_state_words.specs.Laws.{stated}
use Rattle.c_state.specs.declared.CallFinds.{CallFinds}
use Rattle.c_state.specs.Definitions.{lengths_ok, by_planner, state_lent, entry_refused, called, refusal_of, event_refused, event_answer, event_leaves}
use Rattle.c_state.specs.Calls.{entry}

not_state : (w : List ℕ) → (length w ≡ 160 → ⊥) → is_state w ≡ false
not_state w h = no_true (is_state w) (λ s. h (stated w s).long)

pub settings_whole : (s : List ℕ) → settings_ok (words_in s) ≡ true → words_within 52 s ≡ words_in s
settings_whole s h =
    ⊎_elim (λ e. e) (λ c. absurd (let z : true ≡ false = sym h ∙ c.1 in let n : ◌≡◌ {A = ℕ} 0 1 = cc in omega arith)) (settings_within s)

-- bytes of another length are no state
pub no_state_lent : (b : List ℕ) → (length b ≡ 640 → ⊥) → is_state (words_in b) ≡ false
no_state_lent b h = not_state (words_in b) (λ e. h (bytes_of_words b 159 e))

-- whether bytes are a state, and the state or else the fresh one
given_ok : (b : Bool) (x : State) → is_some (some_if b x) ≡ b
unfolding some_if
given_ok b x = ⊎_elim (λ e. rw e) (λ e. rw e) (either b)

given_state : (b : List ℕ) → unwrap_or (some_if (is_state (words_in b)) (state_lent b)) fresh ≡ (decoded (words_in b)).state
unfolding some_if state_lent decoded
given_state b = ⊎_elim (λ e. rw e) (λ e. rw e) (either (is_state (words_in b)))

pub entry_of : (allowed lengths : Bool) (settings state : List ℕ) (d : Option State) → d ≡ some_if (is_state (words_in state)) (state_lent state)
    → (x : State) → x ≡ fresh
    → (table : List ℕ) (n : ℕ) → HoldsSettings table n settings
    → (right : Bool) → right ≡ settings_ok (take (n - 0) (drop 0 table))
    → (r : Refusal) → r ≡ unless lengths 1 (unless right 2 (unless allowed 15 (unless (is_some d) 3 none)))
    → ◌≡◌ {A = CallFinds} (record { refusal = r; state = unwrap_or d x; settings = table; words = n }) (entry allowed lengths settings state)
unfolding entry entry_refused
entry_of allowed lengths settings state d e x i table n h right q r f =
    let checked : right ≡ settings_ok (words_in settings) = q ∙ ap settings_ok h.front ∙ settings_same settings in
    let held = h.whole in
    let counted = h.count in
    rw (f, checked, e, i, given_ok (is_state (words_in state)) (state_lent state), given_state state, held, counted)

module _ (allowed lengths : Bool) (settings state : List ℕ) where
  -- what an entry that does not refuse gives
  pub record CallEntered (x : State) : Type 0 where
    pub lengths-ok : lengths ≡ true
    pub allowed_ok : allowed ≡ true
    pub settings-ok : settings_ok (words_in settings) ≡ true
    pub state_ok : is_state (words_in state) ≡ true
    pub long : length state ≡ 640
    pub state_is : x ≡ state_lent state
    pub event : (r : Refusal) → called allowed lengths settings state r ≡ r

  module _ (e : CallFinds) (given : e ≡ entry allowed lengths settings state) where
    refusal_is : e.refusal ≡ entry_refused allowed lengths settings (is_state (words_in state))
    unfolding entry
    refusal_is = ap (λ (x : CallFinds). x.refusal) given

    -- the settings' table: its first words are the settings', where the entry does not refuse
    pub settings_few : e.words ≤ 52
    unfolding entry words_within
    settings_few =
        omega (arith, ap (λ (x : CallFinds). x.words) given, length_words settings (count_within 52 (length settings)), within_le 52 (length settings))

    pub settings_long : length e.settings ≡ 52
    unfolding entry
    settings_long = ap (λ (x : CallFinds). length x.settings) given ∙ length_padded 52 (words_within 52 settings)

    pub settings_front : settings_ok (words_in settings) ≡ true → take (e.words - 0) (drop 0 e.settings) ≡ words_in settings
    unfolding entry
    settings_front h =
        let count : e.words ≡ length (words_within 52 settings) = ap (λ (x : CallFinds). x.words) given in
        ap (λ (x : CallFinds). take (e.words - 0) x.settings) given
        ∙ front_padded 52 (e.words - 0) (words_within 52 settings) (omega (arith, count, settings_few)) (omega (arith, count))
        ∙ settings_whole settings h

    -- the entry refuses: so does the call, whatever its event
    pub entry_refuses : (e.refusal.code ≡ 0 → ⊥) → (event : Refusal) (word : ℕ) (made bytes : List ℕ)
        → Told (called allowed lengths settings state event) word made bytes e.refusal.code bytes
    unfolding called
    entry_refuses h event word made bytes =
        let no : accepted e.refusal ≡ false = ne_eqb e.refusal.code 0 h in
        told_refused e.refusal (called allowed lengths settings state event)
        (first_refused (entry_refused allowed lengths settings (is_state (words_in state))) event (ap accepted (sym refusal_is) ∙ no) ∙ sym refusal_is)
        word made bytes no

    pub entry_passes : e.refusal.code ≡ 0 → CallEntered e.state
    unfolding entry entry_refused called decoded state_lent
    entry_passes h =
        let none_is : entry_refused allowed lengths settings (is_state (words_in state)) ≡ none =
        sym refusal_is ∙ accepted_none e.refusal (eq-eqb e.refusal.code 0 h) in
        let h1 = unless_rest lengths 0 _ none_is in
        let h2 = unless_rest (settings_ok (words_in settings)) 1 _ h1 in
        let h3 = unless_rest allowed 14 _ h2 in
        let ok : is_state (words_in state) ≡ true = unless_ok (is_state (words_in state)) 2 none h3 in
        record {
          lengths-ok = unless_ok lengths 0 _ none_is;
          settings-ok = unless_ok (settings_ok (words_in settings)) 1 _ h1;
          allowed_ok = unless_ok allowed 14 _ h2;
          state_ok = ok;
          long = bytes_of_words state 159 (stated (words_in state) ok).long;
          state_is = ap (λ (x : CallFinds). x.state) given ∙ rw ok;
          event = λ r. first_none (entry_refused allowed lengths settings (is_state (words_in state))) r none_is;
        }

module _ (allowed : Bool) (settings state desk : List ℕ) (e : CallFinds) (given : e ≡ entry allowed (eqb (length desk) 65536) settings state) where
  pub desk_entry : e ≡ entry allowed (desk_ok (words_in desk)) settings state
  desk_entry = given ∙ ap (λ (b : Bool). entry allowed b settings state) (length-test desk 16383)

  pub desk_passes : e.refusal.code ≡ 0 → CallEntered allowed (desk_ok (words_in desk)) settings state e.state
  desk_passes h = entry_passes allowed (desk_ok (words_in desk)) settings state e desk_entry h

  pub desk_long : e.refusal.code ≡ 0 → length desk ≡ 65536
  desk_long h = bytes_of_words desk 16383 (eqb-true (length (words_in desk)) 16384 (desk_passes h).lengths-ok)

-- the entry of a call that is lent a desk and a buffer
module _ (allowed : Bool) (settings state desk buffer : List ℕ) (lengths : Bool)
    (ok : lengths ≡ (eqb (length desk) 65536 && eqb (length buffer) 2048)) (e : CallFinds) (given : e ≡ entry allowed lengths settings state) where
  pub buffer_entry : e ≡ entry allowed (lengths_ok desk buffer) settings state
  buffer_entry =
      given ∙ ap (λ (b : Bool). entry allowed b settings state) (ok ∙ ap₂ ◌&&◌ (length-test desk 16383) (length-test buffer 511))

  module _ (h : e.refusal.code ≡ 0) where
    pub buffer_passes : CallEntered allowed (lengths_ok desk buffer) settings state e.state
    buffer_passes = entry_passes allowed (lengths_ok desk buffer) settings state e buffer_entry h

    pub buffer_desk : length desk ≡ 65536
    buffer_desk =
        bytes_of_words desk 16383
        (eqb-true (length (words_in desk)) 16384 (and_left (desk_ok (words_in desk)) (eqb (length (words_in buffer)) 512) buffer_passes.lengths-ok))

    pub buffer_words : length (words_in buffer) ≡ 512
    buffer_words =
        eqb-true (length (words_in buffer)) 512 (and_right (desk_ok (words_in desk)) (eqb (length (words_in buffer)) 512) buffer_passes.lengths-ok)

    pub buffer_long : length buffer ≡ 2048
    buffer_long = bytes_of_words buffer 511 buffer_words

module _ (role : ℕ) (settings state desk : List ℕ) (o : Outcome) where
  -- what it answers, and leaves in the state's bytes
  abbrev pub ToldEvent : ℕ → List ℕ → Type 0
  ToldEvent answer left = (answer ≡ event_answer role settings state desk o) × (left ≡ event_leaves role settings state desk o)

  told_event : {answer : ℕ} {left : List ℕ}
      → Told (event_refused role settings state desk o) 0 (bytes_of (state_words o.state)) state answer left → ToldEvent answer left
  unfolding event_answer event_leaves
  told_event t = (t.answers, t.leaves)

  module _ (e : CallFinds) (given : e ≡ entry (by_planner role) (eqb (length desk) 65536) settings state) where
    pub event-refused : (e.refusal.code ≡ 0 → ⊥) → ToldEvent e.refusal.code state
    unfolding event_refused
    event-refused h =
        told_event
        (entry_refuses (by_planner role) (desk_ok (words_in desk)) settings state e (desk_entry (by_planner role) settings state desk e given) h (refusal_of o.answer) 0 _ state)

    pub event_done : e.refusal.code ≡ 0 → {answer : ℕ} {left : List ℕ}
        → Told (refusal_of o.answer) 0 (bytes_of (state_words o.state)) state answer left → ToldEvent answer left
    unfolding event_refused
    event_done h t =
        let same : event_refused role settings state desk o ≡ refusal_of o.answer =
        (desk_passes (by_planner role) settings state desk e given h).event (refusal_of o.answer) in
        told_event (rw same t)

-- Settings and messages of more words than any right one are refused as no words are, so the calls look at no more.
use Rattle.std.specs.Prelude.{◌≡◌, refl, ◌⊎◌, true, false, List, ℕ, ◌%◌, ◌≤◌, eqb, leb, length}
use Rattle.std.proofs.Common.{sym, ap, ◌∙◌, inl, inr, ⊎_elim, arith}
use Rattle.std.proofs.lemmas.Bool.{lt-leb}
use Rattle.base_laws.specs.Bools.{either, no_true, and_fails_left, and_fails_right}
use Rattle.base_lent.specs.Definitions.{words_in, answer_word}
use Rattle.base_lent.specs.Lent.{words_within, within_cases}
use Rattle.base_ids.specs.declared.Refusal.{Refusal}
use Rattle.base_ids.specs.Definitions.{refused, accepted, unless}
use Rattle.base_ids.specs.Refusals.{unless_true, unless_false}
use Rattle.settings_values.specs.Definitions.{settings_ok}
use Rattle.settings_values.specs.Laws.{settings_give}
use Rattle.message_format.specs.declared.Form.{Form}
use Rattle.message_format.specs.declared.Contents.{Contents}
use Rattle.message_format.specs.Definitions.{row5, message_refusal, read_refusal}
use Rattle.message_format.specs.Messages.{blank, reading_of, write_refusal, writing_of, buffer_after}
use Rattle.c_messages.specs.Definitions.{check_answer}

-- right settings have 4 to 52 words
settings_words : (σ : List ℕ) → settings_ok σ ≡ true → (4 ≤ length σ) × (length σ ≤ 52)
settings_words σ h = let s = (settings_give σ h).sizes in (omega arith, omega arith)

-- the settings that a call looks at are those that were lent, or both are wrong
pub settings_within : (b : List ℕ)
    → (words_within 52 b ≡ words_in b) ⊎ ((settings_ok (words_within 52 b) ≡ false) × (settings_ok (words_in b) ≡ false))
settings_within b =
    ⊎_elim inl
    (λ c. inr (
      no_true (settings_ok (words_within 52 b)) (λ h. let s = settings_words (words_within 52 b) h in omega (arith, c.0)),
      no_true (settings_ok (words_in b)) (λ h. let s = settings_words (words_in b) h in omega (arith, c.1)),
    ))
    (within_cases 52 b)

pub settings_same : (b : List ℕ) → settings_ok (words_within 52 b) ≡ settings_ok (words_in b)
settings_same b = ⊎_elim (λ e. ap settings_ok e) (λ c. c.0 ∙ sym c.1) (settings_within b)

-- what the check answers
pub check_wrong : (b : List ℕ) → settings_ok (words_within 52 b) ≡ false → 2 ≡ check_answer b
unfolding check_answer answer_word unless
check_wrong b h = simp (sym (settings_same b) ∙ h)

pub check_right : (b : List ℕ) → settings_ok (words_within 52 b) ≡ true → 0 ≡ check_answer b
unfolding check_answer answer_word unless
check_right b h = simp (sym (settings_same b) ∙ h)

-- ---- reading

-- the words of a message that a call looks at are those that were lent, or both are of a wrong length
pub message_within : (b : List ℕ)
    → (words_within 512 b ≡ words_in b) ⊎ ((row5 (words_within 512 b) ≡ false) × (row5 (words_in b) ≡ false))
unfolding row5
message_within b =
    ⊎_elim inl
    (λ c. inr (
      and_fails_left (eqb (length (words_within 512 b) % 4) 0) (and_fails_left (leb (length (words_within 512 b)) 512) (lt-leb 1 (length (words_within 512 b)) (omega (arith, c.0)))),
      and_fails_left (eqb (length (words_in b) % 4) 0) (and_fails_right (leb 1 (length (words_in b))) (lt-leb (length (words_in b)) 512 c.1)),
    ))
    (within_cases 512 b)

-- a refusal leaves nothing to be read
reading_refused : (form : Form) (σ w : List ℕ) (r : Refusal) → read_refusal form σ w ≡ r → accepted r ≡ false
    → reading_of form σ w ≡ record { refusal = r; contents = blank }
unfolding reading_of
reading_refused form σ w r e h = rw (e, h)

refused_settings : (form : Form) (σ w : List ℕ) → settings_ok σ ≡ false → reading_of form σ w ≡ record { refusal = refused 2; contents = blank }
unfolding read_refusal
refused_settings form σ w h = reading_refused form σ w (refused 2) (unless_false (settings_ok σ) 2 _ h) refl

refused_length : (form : Form) (σ w : List ℕ) → settings_ok σ ≡ true → row5 w ≡ false
    → reading_of form σ w ≡ record { refusal = refused 5; contents = blank }
unfolding read_refusal message_refusal
refused_length form σ w s h =
    reading_refused form σ w (refused 5) (unless_true (settings_ok σ) 2 _ s ∙ unless_false (row5 w) 5 _ h) refl

-- what is read of the words that a call looks at is what is read of those that were lent
pub reading_within : (form : Form) (s m : List ℕ)
    → reading_of form (words_within 52 s) (words_within 512 m) ≡ reading_of form (words_in s) (words_in m)
reading_within form s m =
    ⊎_elim (λ e. ap (λ (σ : List ℕ). reading_of form σ (words_within 512 m)) e ∙ ⊎_elim (λ f. ap (reading_of form (words_in s)) f) by_length (message_within m))
    (λ c. refused_settings form (words_within 52 s) (words_within 512 m) c.0 ∙ sym (refused_settings form (words_in s) (words_in m) c.1))
    (settings_within s)
  where
    by_length : (row5 (words_within 512 m) ≡ false) × (row5 (words_in m) ≡ false)
        → reading_of form (words_in s) (words_within 512 m) ≡ reading_of form (words_in s) (words_in m)
    by_length c =
        ⊎_elim
        (λ h. refused_length form (words_in s) (words_within 512 m) h c.0 ∙ sym (refused_length form (words_in s) (words_in m) h c.1))
        (λ h. refused_settings form (words_in s) (words_within 512 m) h ∙ sym (refused_settings form (words_in s) (words_in m) h))
        (either (settings_ok (words_in s)))

-- ---- writing

write_within : (form : Form) (s : List ℕ) (c : Contents) (z : List ℕ)
    → write_refusal form (words_within 52 s) c z ≡ write_refusal form (words_in s) c z
unfolding write_refusal
write_within form s c z =
    ⊎_elim (λ e. ap (λ (σ : List ℕ). write_refusal form σ c z) e)
    (λ h. ap (unless (eqb (length z) 512) 1)
    (unless_false (settings_ok (words_within 52 s)) 2 _ h.0 ∙ sym (unless_false (settings_ok (words_in s)) 2 _ h.1)))
    (settings_within s)

-- what is written under the settings σ that a call looks at is what is written under those that were lent
module _ (form : Form) (s σ : List ℕ) (c : Contents) (z : List ℕ) (e : σ ≡ words_within 52 s) where
  pub writing_within : writing_of form σ c z ≡ writing_of form (words_in s) c z
  unfolding writing_of
  writing_within = rw (e, write_within form s c z)

  pub buffer_within : buffer_after form σ c z ≡ buffer_after form (words_in s) c z
  unfolding buffer_after
  buffer_within = rw (e, write_within form s c z)

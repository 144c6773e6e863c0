-- Laws over the values that definitions have, where the code gives a Result or an Option.
use Rattle.c_messages.specs.Turning.{flat_rows, turned_words, turning_of, back_words, back_of}
use Rattle.std.specs.Prelude.{ℕ, ◌≤◌, Bool, true, false, List, ◌≡◌, refl, eqb, leb, length, ◌⊎◌, ◌&&◌, ◌%◌, ◌<◌}
use Rattle.std.proofs.Common.{arith, ◌∙◌, inl, inr, ⊎_elim, lit<}
use Rattle.std.proofs.Math.Bool.{cond, true}
use Rattle.std.proofs.Math.Logic.{⊎_elim}
use Rattle.std.proofs.Math.Path.{sym, ap}
use borrow.Author.Tests.{eq-eqb, ne_eqb, leb-true, lt-leb, eqb-true}
use Rattle.base_laws.specs.Bools.{either, clash, and_right}
use Rattle.base_laws.proofs.Below.{lowest_le}
use Rattle.base_bytes.specs.Definitions.{bytes_of}
use Rattle.base_lent.specs.Definitions.{words_in, answer_word, with_length, bytes_left}
use Rattle.base_lent.specs.Lent.{words_within, within_cases}
use Rattle.base_ids.specs.declared.Refusal.{Refusal}
use Rattle.base_ids.specs.Definitions.{none, refused, accepted, unless, first_of}
use Rattle.base_ids.specs.Refusals.{accepted_none, unless_ok, unless_rest, unless_true, unless_false, first_right, first_none, first_refused}
use Rattle.settings_values.specs.Definitions.{settings_ok, Settings}
use Rattle.settings_values.specs.Laws.{settings_give}
use Rattle.message_format.specs.declared.Form.TheVariants.{Report}
use Rattle.message_format.specs.declared.Contents.{Contents}
use Rattle.message_format.specs.declared.Reading.{Reading}
use Rattle.message_format.specs.declared.Writing.{Writing}
use Rattle.message_format.specs.Definitions.{row5, following, place, ends, contents_of, message_refusal, read_refusal, contents_refusal, message_length, message_of}
use Rattle.message_format.specs.Messages.{reading_of, write_refusal, writing_of, buffer_after}
use Rattle.message_flat.specs.Definitions.{flat_refusal, flat_contents, has_places, places_in, flat_length, flat_words}
use Rattle.message_flat.specs.Flat.{from_flat_refusal, to_flat_refusal}
use Rattle.c_messages.specs.Limits.{settings_within, message_within, reading_within}
use Rattle.c_messages.specs.Definitions.{from_flat_refused, from_flat_answer, from_flat_leaves, to_flat_refused, to_flat_answer, to_flat_leaves, contents_words, contents_length, read_refused, read_answer, read_leaves, record_count, contents_in, contents_lent, write_refused, write_answer, write_leaves}
use Rattle.base_lent.specs.Answers.{Told, told_refused, told_accepted}
use Rattle.message_format.specs.declared.Form.{Form}
use Rattle.c_messages.specs.WriteCalls.{contents_within}

-- what is writing_answered beside the refusal r: a length, or 0 where something is refused
abbrev writing_answered : Refusal → ℕ → Writing
writing_answered r n = record { refusal = r; length = cond (accepted r) n 0 }

-- the rows one after another
rows_first : (σ f b : List ℕ) → from_flat_refusal σ f b ≡ first_of (flat_rows σ f b) (contents_refusal Report σ (flat_contents f))
unfolding from_flat_refusal flat_rows unless first_of
rows_first σ f b = go (eqb (length b) 512) (settings_ok σ) (flat_refusal f) (contents_refusal Report σ (flat_contents f))
  where
    go : (x y : Bool) (r s : Refusal) → unless x 1 (unless y 2 (first_of r s)) ≡ first_of (unless x 1 (unless y 2 r)) s
    go true true r s = refl
    go true false r s = refl
    go false y r s = refl

module _ (σ f b : List ℕ) (r : Refusal) (e : r ≡ flat_rows σ f b) where
  module _ (h : r.code ≡ 0 → ⊥) where
    refusal_kept : from_flat_refusal σ f b ≡ r
    refusal_kept =
        rows_first σ f b ∙ first_refused (flat_rows σ f b) _ (sym (ap accepted e) ∙ ne_eqb r.code 0 h) ∙ sym e

    pub turn_refused : ◌≡◌ {A = Writing} (record { refusal = r; length = 0 }) (turning_of σ f b)
    unfolding turning_of
    turn_refused = rw (refusal_kept, ne_eqb r.code 0 h)

    pub turn_keeps : b ≡ turned_words σ f b
    unfolding turned_words
    turn_keeps = rw (refusal_kept, ne_eqb r.code 0 h)

  module _ (h : r.code ≡ 0) (c : Contents) (d : c ≡ flat_contents f) where
    passed : flat_rows σ f b ≡ none
    passed = sym e ∙ accepted_none r (eq-eqb r.code 0 h)

    same_refusal : write_refusal Report σ (flat_contents f) b ≡ from_flat_refusal σ f b
    unfolding write_refusal flat_rows
    same_refusal =
        let long = unless_ok (eqb (length b) 512) 0 _ passed in
        let rest = unless_rest (eqb (length b) 512) 0 _ passed in
        unless_true (eqb (length b) 512) 1 _ long ∙ unless_true (settings_ok σ) 2 _ (unless_ok (settings_ok σ) 1 _ rest)
        ∙ sym (rows_first σ f b ∙ first_none (flat_rows σ f b) _ passed)

    pub turn_writes : writing_of Report σ c b ≡ turning_of σ f b
    unfolding writing_of turning_of
    turn_writes = rw (d, same_refusal)

    pub turn_leaves : buffer_after Report σ c b ≡ turned_words σ f b
    unfolding buffer_after turned_words
    turn_leaves = rw (d, same_refusal)

-- settings of too many words are wrong, as none are
from_within : (s f b : List ℕ) → from_flat_refusal (words_within 52 s) f b ≡ from_flat_refusal (words_in s) f b
unfolding from_flat_refusal
from_within s f b =
    ⊎_elim (λ e. ap (λ (σ : List ℕ). from_flat_refusal σ f b) e)
    (λ h. ap (unless (eqb (length b) 512) 1)
    (unless_false (settings_ok (words_within 52 s)) 2 _ h.0 ∙ sym (unless_false (settings_ok (words_in s)) 2 _ h.1)))
    (settings_within s)

module _ (s σ f b : List ℕ) (e : σ ≡ words_within 52 s) where
  pub turning_within : turning_of σ f b ≡ turning_of (words_in s) f b
  unfolding turning_of
  turning_within = rw (e, from_within s f b)

module _ (σ w b : List ℕ) where
  pub back_not_512 : (length b ≡ 512 → ⊥) → (◌≡◌ {A = Writing} (record { refusal = refused 1; length = 0 }) (back_of σ w b)) × (b ≡ back_words σ w b)
  unfolding back_of back_words to_flat_refusal
  back_not_512 h =
      let no : unless (eqb (length b) 512) 1 (read_refusal Report σ w) ≡ refused 1 = unless_false (eqb (length b) 512) 1 _ (ne_eqb (length b) 512 h) in
      (rw no, rw no)

  module _ (long : length b ≡ 512) (r : Reading) (e : r ≡ reading_of Report σ w) where
    same_read : to_flat_refusal σ w b ≡ r.refusal
    unfolding to_flat_refusal reading_of
    same_read = unless_true (eqb (length b) 512) 1 _ (eq-eqb (length b) 512 long) ∙ sym (ap (λ (x : Reading). x.refusal) e)

    pub back_refused : (r.refusal.code ≡ 0 → ⊥)
        → (◌≡◌ {A = Writing} (record { refusal = r.refusal; length = 0 }) (back_of σ w b)) × (b ≡ back_words σ w b)
    unfolding back_of back_words
    back_refused h = let no = ne_eqb r.refusal.code 0 h in (rw (same_read, no), rw (same_read, no))

    module _ (h : r.refusal.code ≡ 0) where
      read_none : read_refusal Report σ w ≡ none
      unfolding reading_of
      read_none = sym (ap (λ (x : Reading). x.refusal) e) ∙ ap refused h

      pub back_settings : Settings σ
      unfolding read_refusal
      back_settings = settings_give σ (unless_ok (settings_ok σ) 1 _ read_none)

      contents_are : r.contents ≡ contents_of w
      unfolding reading_of
      contents_are = ap (λ (x : Reading). x.contents) e ∙ rw read_none

      pub back_few : r.contents.len ≤ 127
      unfolding contents_of following
      back_few =
          let len : r.contents.len ≡ following w = ap (λ (c : Contents). c.len) contents_are in
          omega (arith, lowest_le 127 (λ j. ends w (place w j)))

      pub back_written : (n : ℕ) (out : List ℕ) → n ≡ flat_length σ r.contents → out ≡ flat_words σ r.contents
          → (◌≡◌ {A = Writing} (record { refusal = r.refusal; length = n }) (back_of σ w b)) × (out ≡ back_words σ w b)
      unfolding back_of back_words
      back_written n out p q = let yes = eq-eqb r.refusal.code 0 h in (rw (same_read, yes, p, contents_are), rw (same_read, yes, q, contents_are))

-- beside a refusal it does not matter what would be made
answered_alike : (r : Refusal) (x y : ℕ) → accepted r ≡ false → writing_answered r x ≡ writing_answered r y
answered_alike r x y h = rw h

-- the words that are looked at
module _ (s m b : List ℕ) where
  to_within : to_flat_refusal (words_within 52 s) (words_within 512 m) b ≡ to_flat_refusal (words_in s) (words_in m) b
  unfolding to_flat_refusal reading_of
  to_within = ap (unless (eqb (length b) 512) 1) (ap (λ (x : Reading). x.refusal) (reading_within Report s m))

  -- accepted, they are those that were lent
  module _ (h : to_flat_refusal (words_in s) (words_in m) b ≡ none) where
    taken : read_refusal Report (words_in s) (words_in m) ≡ none
    unfolding to_flat_refusal
    taken = unless_rest (eqb (length b) 512) 0 _ h

    same_settings : words_within 52 s ≡ words_in s
    unfolding read_refusal
    same_settings = ⊎_elim (λ e. e) (λ k. clash (unless_ok (settings_ok (words_in s)) 1 _ taken) k.1) (settings_within s)

    same_message : words_within 512 m ≡ words_in m
    unfolding read_refusal message_refusal
    same_message =
        ⊎_elim (λ e. e)
        (λ k. clash (unless_ok (row5 (words_in m)) 4 _ (unless_rest (settings_ok (words_in s)) 1 _ taken)) k.1) (message_within m)

  back_within : back_of (words_within 52 s) (words_within 512 m) b ≡ back_of (words_in s) (words_in m) b
  unfolding back_of
  back_within =
      ⊎_elim (λ h. let n = accepted_none _ h in rw (same_settings n, same_message n))
      (λ h. ap (λ (r : Refusal). writing_answered r (flat_length (words_within 52 s) (contents_of (words_within 512 m)))) to_within
      ∙ answered_alike (to_flat_refusal (words_in s) (words_in m) b) _ _ h)
      (either (accepted (to_flat_refusal (words_in s) (words_in m) b)))

module _ (s m b σ w : List ℕ) (e : σ ≡ words_within 52 s) (g : w ≡ words_within 512 m) where
  pub back_seen : back_of σ w b ≡ back_of (words_in s) (words_in m) b
  back_seen = rw (e, g) (back_within s m b)

-- a length and words that stand only beside an acceptance
module _ (r : Refusal) where
  length_told : (n : ℕ) → answer_word r (with_length (cond (accepted r) n 0)) ≡ answer_word r (with_length n)
  unfolding answer_word
  length_told n = ⊎_elim (λ h. rw h) (λ h. rw h) (either (accepted r))

  words_left : (made z b : List ℕ) → bytes_left r (bytes_of (cond (accepted r) made z)) b ≡ bytes_left r (bytes_of made) b
  unfolding bytes_left
  words_left made z b = ⊎_elim (λ h. rw h) (λ h. rw h) (either (accepted r))

  few_told : (n : ℕ) → (r ≡ none → n ≤ 512) → cond (accepted r) n 0 ≤ 512
  few_told n h = ⊎_elim (λ k. rw k (h (accepted_none r k))) (λ k. rw k (omega arith)) (either (accepted r))

module _ (s f b : List ℕ) where
  module _ (whole : length b ≡ 2048) (z : List ℕ) (q : length z ≡ 512) (w : Writing) (e : w ≡ turning_of (words_in s) (words_in f) z) where
    from_same : from_flat_refusal (words_in s) (words_in f) z ≡ from_flat_refused s f b
    unfolding from_flat_refusal from_flat_refused
    from_same = unless_true (eqb (length z) 512) 1 _ (eq-eqb (length z) 512 q) ∙ sym (unless_true (eqb (length b) 2048) 1 _ (eq-eqb (length b) 2048 whole))

    pub from_few : w.length ≤ 512
    unfolding turning_of from_flat_refusal contents_refusal
    from_few =
        rw e
        (few_told (from_flat_refusal (words_in s) (words_in f) z) (message_length (flat_contents (words_in f)))
        (λ h.
        let rest = unless_rest (settings_ok (words_in s)) 1 _ (unless_rest (eqb (length z) 512) 0 _ h) in
        let few = leb-true (flat_contents (words_in f)).len 127 (unless_ok (leb (flat_contents (words_in f)).len 127) 4 _ (first_right (flat_refusal (words_in f)) _ rest)) in
        omega (arith, few)))

    pub from_told : (answer : ℕ) (out left : List ℕ) → out ≡ turned_words (words_in s) (words_in f) z → answer ≡ answer_word w.refusal (with_length w.length)
        → left ≡ bytes_left w.refusal (bytes_of out) b → (answer ≡ from_flat_answer s f b) × (left ≡ from_flat_leaves s f b)
    unfolding turning_of turned_words from_flat_answer from_flat_leaves
    from_told answer out left o a l = (
      a ∙ rw (e, from_same) (length_told (from_flat_refused s f b) (message_length (flat_contents (words_in f)))),
      l ∙ rw (e, o, from_same) (words_left (from_flat_refused s f b) (message_of (flat_contents (words_in f)) 512) z b),
    )

module _ (s m b : List ℕ) where
  module _ (whole : length b ≡ 2048) (z : List ℕ) (q : length z ≡ 512) (w : Writing) (e : w ≡ back_of (words_in s) (words_in m) z) where
    to_same : to_flat_refusal (words_in s) (words_in m) z ≡ to_flat_refused s m b
    unfolding to_flat_refusal to_flat_refused
    to_same = unless_true (eqb (length z) 512) 1 _ (eq-eqb (length z) 512 q) ∙ sym (unless_true (eqb (length b) 2048) 1 _ (eq-eqb (length b) 2048 whole))

    flat_short : Settings (words_in s) → flat_length (words_in s) (contents_of (words_in m)) ≤ 512
    unfolding places_in contents_of following
    flat_short g =
        let few = lowest_le 127 (λ j. ends (words_in m) (place (words_in m) j)) in
        let low = g.sizes.shards_to in
        ⊎_elim (λ (h : has_places (words_in s) (contents_of (words_in m)) ≡ true). rw h (omega (arith, few, low))) (λ h. rw h (omega (arith, few, low)))
        (either (has_places (words_in s) (contents_of (words_in m))))

    pub to_few : w.length ≤ 512
    unfolding back_of to_flat_refusal read_refusal
    to_few =
        rw e
        (few_told (to_flat_refusal (words_in s) (words_in m) z) (flat_length (words_in s) (contents_of (words_in m)))
        (λ h. flat_short (settings_give (words_in s) (unless_ok (settings_ok (words_in s)) 1 _ (unless_rest (eqb (length z) 512) 0 _ h)))))

    pub to_told : (answer : ℕ) (out left : List ℕ) → out ≡ back_words (words_in s) (words_in m) z → answer ≡ answer_word w.refusal (with_length w.length)
        → left ≡ bytes_left w.refusal (bytes_of out) b → (answer ≡ to_flat_answer s m b) × (left ≡ to_flat_leaves s m b)
    unfolding back_of back_words to_flat_answer to_flat_leaves
    to_told answer out left o a l = (
      a ∙ rw (e, to_same) (length_told (to_flat_refused s m b) (flat_length (words_in s) (contents_of (words_in m)))),
      l ∙ rw (e, o, to_same) (words_left (to_flat_refused s m b) (flat_words (words_in s) (contents_of (words_in m))) z b),
    )

module _ (form : Form) (s m b : List ℕ) where
  -- what a call that reads answers and leaves
  abbrev ToldRead : ℕ → List ℕ → Type 0
  ToldRead answer left = (answer ≡ read_answer form s m b) × (left ≡ read_leaves form s m b)

  told : {answer : ℕ} {left : List ℕ}
      → Told (read_refused form s m b) (with_length (contents_length (contents_of (words_in m)))) (bytes_of (contents_words (contents_of (words_in m)))) b answer left
      → ToldRead answer left
  unfolding read_answer read_leaves
  told t = (t.answers, t.leaves)

  module _ (whole : length b ≡ 2048) (r : Reading) (e : r ≡ reading_of form (words_in s) (words_in m)) where
    refusal_is : read_refused form s m b ≡ r.refusal
    unfolding read_refused reading_of
    refusal_is = unless_true (eqb (length b) 2048) 1 _ (eq-eqb (length b) 2048 whole) ∙ sym (ap (λ (x : Reading). x.refusal) e)

    read_is : r.refusal.code ≡ 0 → r.contents ≡ contents_of (words_in m)
    unfolding reading_of
    read_is h =
        let ok : accepted (read_refusal form (words_in s) (words_in m)) ≡ true =
        eq-eqb (read_refusal form (words_in s) (words_in m)).code 0 (sym (ap (λ (x : Reading). x.refusal.code) e) ∙ h) in
        ap (λ (x : Reading). x.contents) e ∙ rw ok

    pub read-refused : (r.refusal.code ≡ 0 → ⊥) → ToldRead r.refusal.code b
    read-refused h = told (told_refused r.refusal _ refusal_is _ _ b (ne_eqb r.refusal.code 0 h))

    pub read_taken : r.refusal.code ≡ 0 → ToldRead (with_length (contents_length r.contents)) (bytes_of (contents_words r.contents))
    read_taken h = rw (read_is h) (told (told_accepted r.refusal _ refusal_is _ _ b (eq-eqb r.refusal.code 0 h)))

    pub read_few : r.refusal.code ≡ 0 → r.contents.len ≤ 127
    unfolding contents_of following
    read_few h =
        let len : r.contents.len ≡ following (words_in m) = ap (λ (c : Contents). c.len) (read_is h) in
        omega (arith, lowest_le 127 (λ j. ends (words_in m) (place (words_in m) j)))

-- more than 384 words are more than 127 records
count_many : (n : ℕ) → 384 < n → 127 < record_count n
unfolding record_count
count_many n l =
    ⊎_elim (λ e. rw e (let whole = eqb-true (n % 3) 0 (and_right (leb 3 n) (eqb (n % 3) 0) e) in omega arith)) (λ e. rw e (omega arith)) (either (leb 3 n && eqb (n % 3) 0))

-- and so, in effect, are none
count_none : 127 < record_count 0
unfolding record_count
count_none = lit< tt

-- they are those that were lent, or both have too many records
contents-within : (b : List ℕ) → (contents_within b ≡ contents_lent b) ⊎ ((127 < (contents_within b).len) × (127 < (contents_lent b).len))
unfolding contents_lent contents_in
contents-within b =
    ⊎_elim (λ e. inl (ap (λ (w : List ℕ). contents_in w (length w)) e))
    (λ c. inr (rw c.0 count_none, count_many (length (words_in b)) c.1))
    (within_cases 384 b)

-- too many records are row 5
too_many : (form : Form) (σ : List ℕ) (c : Contents) → 127 < c.len → contents_refusal form σ c ≡ refused 5
unfolding contents_refusal
too_many form σ c l = unless_false (leb c.len 127) 5 _ (lt-leb c.len 127 l)

refusal_within : (form : Form) (σ b : List ℕ) → contents_refusal form σ (contents_within b) ≡ contents_refusal form σ (contents_lent b)
refusal_within form σ b =
    ⊎_elim (λ e. ap (contents_refusal form σ) e)
    (λ c. too_many form σ (contents_within b) c.0 ∙ sym (too_many form σ (contents_lent b) c.1))
    (contents-within b)

module _ (form : Form) (s k b : List ℕ) where
  -- what a call that writes answers and leaves
  abbrev ToldWrite : ℕ → List ℕ → Type 0
  ToldWrite answer left = (answer ≡ write_answer form s k b) × (left ≡ write_leaves form s k b)

  write_told : {answer : ℕ} {left : List ℕ}
      → Told (write_refused form s k b) (with_length (message_length (contents_lent k))) (bytes_of (message_of (contents_lent k) 512)) b answer left
      → ToldWrite answer left
  unfolding write_answer write_leaves
  write_told t = (t.answers, t.leaves)

  -- the message of c was written into 512 words z
  module _ (whole : length b ≡ 2048) (z : List ℕ) (long : length z ≡ 512) (c : Contents) (q : c ≡ contents_within k) (w : Writing)
      (f : w ≡ writing_of form (words_in s) c z) where
    e : w ≡ writing_of form (words_in s) (contents_within k) z
    e = f ∙ ap (λ (x : Contents). writing_of form (words_in s) x z) q

    write_refusal_is : write_refused form s k b ≡ w.refusal
    unfolding write_refused writing_of write_refusal
    write_refusal_is =
        unless_true (eqb (length b) 2048) 1 _ (eq-eqb (length b) 2048 whole)
        ∙ ap (unless (settings_ok (words_in s)) 2) (sym (refusal_within form (words_in s) k))
        ∙ sym (unless_true (eqb (length z) 512) 1 _ (eq-eqb (length z) 512 long))
        ∙ sym (ap (λ (x : Writing). x.refusal) e)

    pub write-refused : (w.refusal.code ≡ 0 → ⊥) → ToldWrite w.refusal.code b
    write-refused h = write_told (told_refused w.refusal _ write_refusal_is _ _ b (ne_eqb w.refusal.code 0 h))

    module _ (h : w.refusal.code ≡ 0) where
      written : write_refusal form (words_in s) (contents_within k) z ≡ none
      unfolding writing_of
      written = sym (ap (λ (x : Writing). x.refusal) e) ∙ ap refused h

      write_is_taken : contents_refusal form (words_in s) (contents_within k) ≡ none
      unfolding write_refusal
      write_is_taken = unless_rest (settings_ok (words_in s)) 1 _ (unless_rest (eqb (length z) 512) 0 _ written)

      same_contents : contents_within k ≡ contents_lent k
      same_contents =
          ⊎_elim (λ p. p)
          (λ l. absurd (let five : 5 ≡ 0 = ap (λ (r : Refusal). r.code) (sym (too_many form (words_in s) (contents_within k) l.0) ∙ write_is_taken) in omega arith))
          (contents-within k)

      length_is : w.length ≡ message_length (contents_within k)
      unfolding writing_of
      length_is = ap (λ (x : Writing). x.length) e ∙ rw written

      pub write_few : w.length ≤ 512
      unfolding contents_refusal
      write_few =
          let few = leb-true (contents_within k).len 127 (unless_ok (leb (contents_within k).len 127) 4 _ write_is_taken) in
          omega (arith, length_is)

      pub write_taken : (out : List ℕ) → out ≡ buffer_after form (words_in s) c z → ToldWrite (with_length w.length) (bytes_of out)
      unfolding buffer_after
      write_taken out g =
          let made : out ≡ message_of (contents_lent k) 512 = g ∙ rw (q, written, same_contents) in
          let counted : w.length ≡ message_length (contents_lent k) = length_is ∙ ap message_length same_contents in
          rw (made, counted) (write_told (told_accepted w.refusal _ write_refusal_is _ _ b (eq-eqb w.refusal.code 0 h)))

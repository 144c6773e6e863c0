-- There and back. An accepted flat report turned into ours and back has the same words; and the contents of our report turned into a flat
-- report and back are the same.
use Prim.Native.Nat.{ℕ, zero, suc, ◌+◌, ◌*◌, ◌-◌, ◌/◌, ◌%◌, ◌≤◌, ◌<◌, min}
use native.Mathlib.Omega.{arith}
use Rattle.std.specs.Prelude.{true, false, cond, List, ◌⊎◌, ◌≡◌, leb, ltb, length, take}
use Rattle.std.proofs.Common.{inl, inr, ◌∙◌, subst}
use Rattle.std.proofs.Math.Logic.{⊎_elim}
use Rattle.std.proofs.Math.Path.{sym, ap}
use Rattle.std.proofs.Math.Dec.{eqb}
use Rattle.std.proofs.Math.ListN.{get_or, length-take}
use Rattle.std.proofs.Math.Seq.{get_or-take, ext_get_or}
use borrow.Author.Tests.{eqb-true, eq-eqb, ne_eqb, lt-ltb, le-ltb, leb-true}
use Rattle.base_laws.specs.Bools.{either, clash, and_both, and_left, and_right, and_fails_left, and_fails_right, lt_or_le, eq_or_ne}
use Rattle.base_laws.specs.Tables.{length_tabulate, get_d_tabulate}
use Rattle.base_ids.specs.Definitions.{none}
use Rattle.base_ids.specs.Refusals.{unless_ok}
use Rattle.settings_values.specs.Definitions.{shards}
use Rattle.message_format.specs.declared.Contents.{Contents}
use Rattle.message_format.specs.declared.Form.TheVariants.{Report}
use Rattle.message_format.specs.Definitions.{tag, kind, record_shard, head_word, contents_refusal}
use Rattle.message_format.specs.Passed.{ContentsPass, contents_given}
use Rattle.message_flat.specs.Definitions.{flat_shards, flat_flag, flat_places, flat_count_at, flat_runs, explained, flat_len, flat_refusal, flat_record, flat_body, flat_contents, has_places, places_in, runs_first, runs_count, count_place, flat_length, triple_word, flat_word, flat_words}
use Rattle.message_flat.specs.Records.{few, enough, mask_tag, shard_lt}
use Rattle.message_flat.specs.Turns.{made_head, made_shards, made_mask, made_flag, made_place, made_count, made_triple, record_mask, record_place, record_run}

-- ---- a flat report and its contents

-- word p of record j of the contents
body-word : (f : List ℕ) → flat_len f ≤ 127 → (j p : ℕ) → j < flat_len f → p < 3 → get_or (flat_body f) (3 * j + p) 0 ≡ flat_record f j p
unfolding flat_body
body-word f small j p l m =
    let d : (3 * j + p) / 3 ≡ j = omega arith in
    let e : (3 * j + p) % 3 ≡ p = omega arith in
    get_d_tabulate 381 (λ k. cond (ltb k (3 * flat_len f)) (flat_record f (k / 3) (k % 3)) 0) (3 * j + p) 0 (omega arith)
    ∙ rw (lt-ltb (3 * j + p) (3 * flat_len f) (omega arith), d, e)

-- an accepted flat report
module _ (σ f : List ℕ) (one : 1 ≤ shards σ) (most : shards σ ≤ 16) (shaped : flat_refusal f ≡ none)
    (taken : contents_refusal Report σ (flat_contents f) ≡ none) where
  abbrev ours : Contents
  ours = flat_contents f

  abbrev ours_body : List ℕ
  ours_body = flat_body f

  pass : ContentsPass Report σ ours
  pass = contents_given Report σ ours taken

  small : flat_len f ≤ 127
  unfolding flat_contents
  small = few σ ours pass

  is_explained : explained f ≡ true
  unfolding flat_refusal
  is_explained = unless_ok (explained f) 18 _ shaped

  flag_low : flat_flag f ≤ 1
  unfolding explained
  flag_low = leb-true (flat_flag f) 1 (and_left (leb (flat_flag f) 1) _ is_explained)

  long : length f ≡ flat_count_at f + 1 + 3 * flat_runs f
  unfolding explained
  long = eqb-true (length f) (flat_count_at f + 1 + 3 * flat_runs f) (and_right (leb (flat_flag f) 1) _ is_explained)

  word-of : (j p : ℕ) → j < flat_len f → p < 3 → get_or ours_body (3 * j + p) 0 ≡ flat_record f j p
  word-of = body-word f small

  tag_of : (j : ℕ) → j < flat_len f → tag ours_body j ≡ flat_record f j 0
  tag_of j l = ap (λ (k : ℕ). get_or ours_body k 0) (omega arith) ∙ word-of j 0 l (omega arith)

  -- it has as many masks as there are shards
  same-shards : flat_shards f ≡ shards σ
  unfolding flat_contents
  same-shards = ⊎_elim fewer (λ l. ⊎_elim more (λ m. omega arith) (lt_or_le (shards σ) (flat_shards f))) (lt_or_le (flat_shards f) (shards σ))
    where
      fewer : flat_shards f < shards σ → flat_shards f ≡ shards σ
      fewer l =
          let inside : flat_shards f < flat_len f = omega (arith, enough σ ours pass) in
          let t : tag ours_body (flat_shards f) ≡ 256 + flat_shards f = mask_tag σ ours pass (flat_shards f) l in
          let big : 512 ≤ flat_record f (flat_shards f) 0 =
          ⊎_elim (λ m. rw (record_place f (flat_shards f) 0 (omega arith) m) (omega arith)) (λ m. rw (record_run f (flat_shards f) 0 m) (omega arith))
          (lt_or_le (flat_shards f) (flat_shards f + flat_places f)) in
          absurd (omega (arith, t, tag_of (flat_shards f) inside, big))

      more : shards σ < flat_shards f → flat_shards f ≡ shards σ
      more l =
          let inside : shards σ < flat_len f = omega arith in
          let t : tag ours_body (shards σ) ≡ 256 + shards σ = tag_of (shards σ) inside ∙ record_mask f (shards σ) 0 l in
          absurd (omega (arith, shard_lt σ ours pass (shards σ) inside, t))

  -- it has a termination just where its word says so
  same_flag : has_places σ ours ≡ eqb (flat_flag f) 1
  unfolding flat_contents flat_places
  same_flag = go (either (eqb (flat_flag f) 1))
    where
      go : (eqb (flat_flag f) 1 ≡ true) ⊎ (eqb (flat_flag f) 1 ≡ false) → has_places σ ours ≡ eqb (flat_flag f) 1
      go (inl e) =
          let places : flat_places f ≡ flat_shards f = rw e in
          let inside : shards σ < flat_len f = omega (arith, same-shards, places) in
          let t : tag ours_body (shards σ) ≡ 512 + (shards σ - flat_shards f) =
          tag_of (shards σ) inside ∙ record_place f (shards σ) 0 (omega (arith, same-shards)) (omega (arith, same-shards, places)) in
          and_both (lt-ltb (shards σ) (flat_len f) inside) (eq-eqb (kind ours_body (shards σ)) 2 (omega (arith, t, same-shards))) ∙ sym e
      go (inr e) =
          let places : flat_places f ≡ 0 = rw e in
          ⊎_elim
          (λ l.
          let t : tag ours_body (shards σ) ≡ 768 + min (get_or f (flat_count_at f + 1 + 3 * (shards σ - (flat_shards f + flat_places f))) 0) 255 =
          tag_of (shards σ) l ∙ record_run f (shards σ) 0 (omega (arith, same-shards, places)) in
          and_fails_right (ltb (shards σ) (flat_len f)) (ne_eqb (kind ours_body (shards σ)) 2 (λ d. omega (arith, t))) ∙ sym e)
          (λ l. and_fails_left (eqb (kind ours_body (shards σ)) 2) (le-ltb (shards σ) (flat_len f) l) ∙ sym e)
          (lt_or_le (shards σ) (flat_len f))

  same_places : places_in σ ours ≡ flat_places f
  unfolding places_in flat_places
  same_places = rw (same_flag, same-shards)

  same_count : runs_count σ ours ≡ flat_runs f
  unfolding flat_contents
  same_count = omega (arith, same-shards, same_places)

  pub same_length : flat_length σ ours ≡ length f
  same_length = omega (arith, same-shards, same_places, same_count, long)

  back_head : (k : ℕ) → k < 3 → flat_word σ ours k ≡ get_or f k 0
  unfolding flat_contents head_word
  back_head zero l = made_head σ ours 0 l
  back_head (suc zero) l = made_head σ ours 1 l
  back_head (suc (suc zero)) l = made_head σ ours 2 l
  back_head (suc (suc (suc k))) l = absurd (omega arith)

  back_mask : (s : ℕ) → s < shards σ → flat_word σ ours (4 + s) ≡ get_or f (4 + s) 0
  unfolding flat_contents
  back_mask s l =
      let inside : s < flat_len f = omega (arith, same-shards) in
      made_mask σ ours s l ∙ word-of s 1 inside (omega arith) ∙ record_mask f s 1 (omega (arith, same-shards))

  back_flag : flat_word σ ours (4 + shards σ) ≡ get_or f (4 + shards σ) 0
  back_flag =
      made_flag σ ours
      ∙ ⊎_elim
      (λ e.
      let w : flat_flag f ≡ 1 = eqb-true (flat_flag f) 1 e in
      let made : has_places σ ours ≡ true = same_flag ∙ e in
      rw made (sym w ∙ ap (λ (x : ℕ). get_or f (4 + x) 0) same-shards))
      (λ e.
      let w : flat_flag f ≡ 0 = ⊎_elim (λ d. clash (eq-eqb (flat_flag f) 1 d) e) (λ d. omega (arith, flag_low, d)) (eq_or_ne (flat_flag f) 1) in
      let made : has_places σ ours ≡ false = same_flag ∙ e in
      rw made (sym w ∙ ap (λ (x : ℕ). get_or f (4 + x) 0) same-shards))
      (either (eqb (flat_flag f) 1))

  back_place : (i : ℕ) → i < 2 * places_in σ ours → flat_word σ ours (5 + shards σ + i) ≡ get_or f (5 + shards σ + i) 0
  unfolding flat_contents
  back_place i l =
      let j : ℕ = shards σ + i / 2 in
      let inside : j < flat_len f = omega (arith, same-shards, same_places) in
      let p : ℕ = 1 + i % 2 in
      made_place σ ours i l
      ∙ ap (λ (x : ℕ). get_or ours_body x 0) (omega arith)
      ∙ word-of (shards σ + i / 2) (1 + i % 2) inside (omega arith)
      ∙ record_place f (shards σ + i / 2) (1 + i % 2) (omega (arith, same-shards)) (omega (arith, same-shards, same_places))
      ∙ rw (ne_eqb (1 + i % 2) 0 (λ e. omega arith)) (ap (λ (x : ℕ). get_or f x 0) (omega (arith, same-shards)))

  back_count : flat_word σ ours (count_place σ ours) ≡ get_or f (count_place σ ours) 0
  back_count = made_count σ ours ∙ same_count ∙ ap (λ (x : ℕ). get_or f x 0) (omega (arith, same-shards, same_places))

  back_triple : (i : ℕ) → i < 3 * runs_count σ ours → flat_word σ ours (count_place σ ours + 1 + i) ≡ get_or f (count_place σ ours + 1 + i) 0
  unfolding flat_contents triple_word
  back_triple i l =
      made_triple σ ours i l ∙ ⊎_elim first other (eq_or_ne (i % 3) 0)
    where
      at : ℕ
      at = runs_first σ ours + i / 3

      inside : runs_first σ ours + i / 3 < flat_len f
      inside = omega (arith, same-shards, same_places, same_count)

      first : i % 3 ≡ 0
          → cond (eqb (i % 3) 0) (record_shard ours_body (runs_first σ ours + i / 3)) (get_or ours_body (3 * runs_first σ ours + i) 0) ≡ get_or f (count_place σ ours + 1 + i) 0
      first e =
          let x : ℕ = get_or f (flat_count_at f + 1 + 3 * (runs_first σ ours + i / 3 - (flat_shards f + flat_places f))) 0 in
          let t : tag ours_body (runs_first σ ours + i / 3) ≡ 768 + min (get_or f (flat_count_at f + 1 + 3 * (runs_first σ ours + i / 3 - (flat_shards f + flat_places f))) 0) 255 =
          tag_of (runs_first σ ours + i / 3) inside ∙ record_run f (runs_first σ ours + i / 3) 0 (omega (arith, same-shards, same_places)) in
          let low : record_shard ours_body (runs_first σ ours + i / 3) < shards σ = shard_lt σ ours pass (runs_first σ ours + i / 3) inside in
          let is : record_shard ours_body (runs_first σ ours + i / 3) ≡ get_or f (flat_count_at f + 1 + 3 * (runs_first σ ours + i / 3 - (flat_shards f + flat_places f))) 0 = omega (arith, t, low) in
          rw (eq-eqb (i % 3) 0 e) (is ∙ ap (λ (y : ℕ). get_or f y 0) (omega (arith, same-shards, same_places)))

      other : (i % 3 ≡ 0 → ⊥)
          → cond (eqb (i % 3) 0) (record_shard ours_body (runs_first σ ours + i / 3)) (get_or ours_body (3 * runs_first σ ours + i) 0) ≡ get_or f (count_place σ ours + 1 + i) 0
      other e =
          rw (ne_eqb (i % 3) 0 e)
          (ap (λ (y : ℕ). get_or ours_body y 0) (omega arith)
          ∙ word-of (runs_first σ ours + i / 3) (i % 3) inside (omega arith)
          ∙ record_run f (runs_first σ ours + i / 3) (i % 3) (omega (arith, same-shards, same_places))
          ∙ rw (ne_eqb (i % 3) 0 e) (ap (λ (y : ℕ). get_or f y 0) (omega (arith, same-shards, same_places))))

  -- each word comes back
  same_word : (k : ℕ) → k < length f → flat_word σ ours k ≡ get_or f k 0
  same_word k l =
      ⊎_elim (back_head k)
      (λ from3.
      ⊎_elim (λ to4. let e : 3 ≡ k = omega arith in subst (λ (x : ℕ). flat_word σ ours x ≡ get_or f x 0) e (made_shards σ ours ∙ sym same-shards))
      (λ from4.
      ⊎_elim (λ to. let e : 4 + (k - 4) ≡ k = omega arith in subst (λ (x : ℕ). flat_word σ ours x ≡ get_or f x 0) e (back_mask (k - 4) (omega arith)))
      (λ past.
      ⊎_elim (λ to. let e : 4 + shards σ ≡ k = omega arith in subst (λ (x : ℕ). flat_word σ ours x ≡ get_or f x 0) e back_flag)
      (λ beyond.
      ⊎_elim
      (λ to.
      let e : 5 + shards σ + (k - (5 + shards σ)) ≡ k = omega arith in
      subst (λ (x : ℕ). flat_word σ ours x ≡ get_or f x 0) e (back_place (k - (5 + shards σ)) (omega arith)))
      (λ after.
      ⊎_elim (λ to. let e : count_place σ ours ≡ k = omega arith in subst (λ (x : ℕ). flat_word σ ours x ≡ get_or f x 0) e back_count)
      (λ rest.
      let e : count_place σ ours + 1 + (k - (count_place σ ours + 1)) ≡ k = omega arith in
      subst (λ (x : ℕ). flat_word σ ours x ≡ get_or f x 0) e (back_triple (k - (count_place σ ours + 1)) (omega (arith, same_length))))
      (lt_or_le k (count_place σ ours + 1)))
      (lt_or_le k (count_place σ ours)))
      (lt_or_le k (5 + shards σ)))
      (lt_or_le k (4 + shards σ)))
      (lt_or_le k 4))
      (lt_or_le k 3)

  -- an accepted flat report turned into ours and back has the same words
  pub flat-back : take (flat_length σ ours) (flat_words σ ours) ≡ f
  unfolding flat_words
  flat-back =
      let fits : flat_length σ ours ≤ 512 = omega (arith, small, same-shards, same_places, same_count) in
      ext_get_or 0 (take (flat_length σ ours) (flat_words σ ours)) f
      (length-take (flat_length σ ours) (flat_words σ ours) ∙ omega (arith, length_tabulate 512 (flat_word σ ours), same_length, fits))
      (λ k l.
      let below : k < flat_length σ ours = omega (arith, length-take (flat_length σ ours) (flat_words σ ours), length_tabulate 512 (flat_word σ ours), fits) in
      get_or-take (flat_length σ ours) (flat_words σ ours) k 0 below ∙ get_d_tabulate 512 (flat_word σ ours) k 0 (omega arith) ∙ same_word k (omega (arith, same_length)))

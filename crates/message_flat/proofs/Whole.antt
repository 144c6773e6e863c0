-- There and back, in terms of what the two ways take and write.
use Rattle.std.specs.Prelude.{ℕ, ◌*◌, ◌/◌, ◌%◌, Bool, true, false, cond, List, ◌≡◌, refl, eqb, ltb, length, get_or}
use Rattle.std.proofs.Math.Path.{ap}
use Rattle.std.proofs.Common.{◌∙◌}
use Rattle.std.proofs.Math.ListN.{take}
use Rattle.base_laws.specs.Definitions.{tabulate}
use Rattle.base_laws.specs.Tables.{get_d_tabulate, tabulate_cong}
use Rattle.base_ids.specs.Definitions.{none, unless, first_of}
use Rattle.base_ids.specs.Refusals.{unless_ok, unless_rest, unless_none, first_left, first_right, first_none}
use Rattle.settings_values.specs.Definitions.{settings_ok, Settings}
use Rattle.settings_values.specs.Laws.{settings_give}
use Rattle.message_format.specs.declared.Contents.{Contents}
use Rattle.message_format.specs.declared.Form.TheVariants.{Report}
use Rattle.message_format.specs.Definitions.{contents_of, message_refusal, read_refusal, contents_refusal, message_length, message_of}
use Rattle.message_format.specs.Messages.{tidy}
use Rattle.message_format.specs.Passed.{contents_given}
use Rattle.message_inverse_laws.specs.RoundTrip.{ReadsAs, read_writes, read_tidy}
use Rattle.message_inverse_laws.proofs.RoundTrip.{message_reads, buffer_reads}
use Rattle.message_flat.specs.Definitions.{flat_len, flat_refusal, flat_record, flat_body, flat_contents, flat_length, flat_words}
use Rattle.message_flat.specs.Flat.{from_flat_refusal, flat_of, to_flat_refusal}
use Rattle.message_flat.proofs.Turns.{flat-back, same_length}
use Rattle.message_flat.proofs.Returns.{made_taken, contents_back}
use Rattle.message_flat.specs.Whole.{ComesBack}

-- the contents of a flat report have zeros past their records
flat_tidy : (f : List ℕ) → tidy (flat_contents f) ≡ flat_contents f
unfolding tidy flat_contents flat_body
flat_tidy f =
    let g : ℕ → ℕ = λ k. cond (ltb k (3 * flat_len f)) (flat_record f (k / 3) (k % 3)) 0 in
    let body : tabulate 381 (λ k. cond (ltb k (3 * flat_len f)) (get_or (flat_body f) k 0) 0) ≡ flat_body f =
    tabulate_cong 381 (λ k. cond (ltb k (3 * flat_len f)) (get_or (flat_body f) k 0) 0) (λ k. cond (ltb k (3 * flat_len f)) (flat_record f (k / 3) (k % 3)) 0)
    (λ k l. ap (λ (x : ℕ). cond (ltb k (3 * flat_len f)) x 0) (get_d_tabulate 381 (λ j. cond (ltb j (3 * flat_len f)) (flat_record f (j / 3) (j % 3)) 0) k 0 l)
    ∙ twice (ltb k (3 * flat_len f)) (flat_record f (k / 3) (k % 3))) in
    rw body
  where
    twice : (t : Bool) (x : ℕ) → cond t (cond t x 0) 0 ≡ cond t x 0
    twice true x = refl
    twice false x = refl

module _ (σ f buffer : List ℕ) (h : from_flat_refusal σ f buffer ≡ none) where
  rest : unless (settings_ok σ) 2 (first_of (flat_refusal f) (contents_refusal Report σ (flat_contents f))) ≡ none
  unfolding from_flat_refusal
  rest = unless_rest (eqb (length buffer) 512) 0 _ h

  right : settings_ok σ ≡ true
  right = unless_ok (settings_ok σ) 1 _ rest

  sizes : Settings σ
  sizes = settings_give σ right

  shaped : flat_refusal f ≡ none
  shaped = first_left (flat_refusal f) _ (unless_rest (settings_ok σ) 1 _ rest)

  accepted_ours : contents_refusal Report σ (flat_contents f) ≡ none
  accepted_ours = first_right (flat_refusal f) _ (unless_rest (settings_ok σ) 1 _ rest)

  back-of : (w : List ℕ) → ReadsAs Report σ w (tidy (flat_contents f)) → ComesBack σ f w
  unfolding read_refusal
  back-of w r =
      let e : contents_of w ≡ flat_contents f = r.found ∙ flat_tidy f in
      record {
        taken = unless_none (settings_ok σ) 2 (message_refusal Report σ w) right r.taken;
        long = ap (flat_length σ) e ∙ same_length σ f sizes.sizes.shards_from sizes.sizes.shards_to shaped accepted_ours;
        same =
            ap (λ (c : Contents). take (flat_length σ c) (flat_words σ c)) e
            ∙ flat-back σ f sizes.sizes.shards_from sizes.sizes.shards_to shaped accepted_ours;
      }

  -- its words alone, and the whole buffer
  pub words_come_back : ComesBack σ f (message_of (flat_contents f) (message_length (flat_contents f)))
  words_come_back = back-of _ (message_reads Report σ (flat_contents f) accepted_ours)

  pub buffer_comes_back : ComesBack σ f (message_of (flat_contents f) 512)
  buffer_comes_back = back-of _ (buffer_reads Report σ (flat_contents f) accepted_ours)

module _ (σ w buffer : List ℕ) (h : to_flat_refusal σ w buffer ≡ none) where
  lent : eqb (length buffer) 512 ≡ true
  unfolding to_flat_refusal
  lent = unless_ok (eqb (length buffer) 512) 0 _ h

  read : read_refusal Report σ w ≡ none
  unfolding to_flat_refusal
  read = unless_rest (eqb (length buffer) 512) 0 _ h

  fine : settings_ok σ ≡ true
  unfolding read_refusal
  fine = unless_ok (settings_ok σ) 1 _ read

  message : message_refusal Report σ w ≡ none
  unfolding read_refusal
  message = unless_rest (settings_ok σ) 1 _ read

  -- our report comes back with its contents, the records one after another
  pub ours_comes_back : flat_contents (flat_of σ w) ≡ contents_of w
  ours_comes_back =
      let s = (settings_give σ fine).sizes in
      contents_back σ (contents_of w) s.shards_from s.shards_to (contents_given Report σ (contents_of w) (read_writes Report σ w message)) (read_tidy w)

  pub ours_taken : from_flat_refusal σ (flat_of σ w) buffer ≡ none
  unfolding from_flat_refusal
  ours_taken =
      let s = (settings_give σ fine).sizes in
      let p = contents_given Report σ (contents_of w) (read_writes Report σ w message) in
      unless_none (eqb (length buffer) 512) 1 _ lent
      (unless_none (settings_ok σ) 2 _ fine
      (first_none (flat_refusal (flat_of σ w)) _ (made_taken σ (contents_of w) s.shards_from s.shards_to p)
      ∙ ap (contents_refusal Report σ) ours_comes_back ∙ read_writes Report σ w message))

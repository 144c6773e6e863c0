-- What the words of a flat report mean, by its counts; with the report's own counts this is what message_flat says.
use Rattle.std.specs.Prelude.{ℕ, ◌≤◌, ◌<◌, Bool, true, false, not, List, ◌≡◌, leb, length}
use Rattle.std.proofs.Math.Path.{sym}
use Rattle.std.proofs.Common.{ap, ap₂, ◌∙◌, subst}
use borrow.Author.Tests.{le-leb, lt-leb}
use Rattle.base_laws.specs.Bools.{not_of_true, not_of_false}
use Rattle.base_ids.specs.Definitions.{none, refused, unless}
use Rattle.base_ids.specs.Refusals.{unless_true, unless_false}
use Rattle.message_flat.specs.Definitions.{explained, zero_count, flat_len, flat_refusal}
use Rattle.message_flat.specs.declared.from_flat.Counts.{Counts}
use Rattle.message_flat.specs.Counted.{counts_of, explained_by, zero_in, records_of, explained-by, zero-in}

-- the rows, by what each test of the code found
module _ (f : List ℕ) (n : Counts) (a : n ≡ counts_of f) (words : ℕ) (b : words ≡ length f) (x : Bool) (d : x ≡ explained_by n words) where
  whether : x ≡ explained f
  whether = d ∙ ap₂ explained_by a b ∙ explained-by f

  pub row_19 : x ≡ false → refused 19 ≡ flat_refusal f
  unfolding flat_refusal
  row_19 h = sym (unless_false (explained f) 19 _ (sym whether ∙ h))

  module _ (h : x ≡ true) (z : Bool) (e : z ≡ zero_in f n) where
    whether_zero : z ≡ zero_count f
    whether_zero = e ∙ ap (zero_in f) a ∙ zero-in f

    pub row_20 : z ≡ true → refused 20 ≡ flat_refusal f
    unfolding flat_refusal
    row_20 g =
        sym (unless_true (explained f) 19 _ (sym whether ∙ h) ∙ unless_false (not (zero_count f)) 20 _ (not_of_true (sym whether_zero ∙ g)))

    module _ (g : z ≡ false) (records : ℕ) (r : records ≡ records_of n) where
      few : flat_refusal f ≡ unless (leb (flat_len f) 127) 21 none
      unfolding flat_refusal
      few = unless_true (explained f) 19 _ (sym whether ∙ h) ∙ unless_true (not (zero_count f)) 20 _ (not_of_false (sym whether_zero ∙ g))

      how-many : records ≡ flat_len f
      how-many = r ∙ ap records_of a

      pub row_21 : 127 < records → refused 21 ≡ flat_refusal f
      row_21 l = sym (few ∙ unless_false (leb (flat_len f) 127) 21 none (lt-leb (flat_len f) 127 (subst (λ (k : ℕ). 127 < k) how-many l)))

      pub no_row : records ≤ 127 → none ≡ flat_refusal f
      no_row l = sym (few ∙ unless_true (leb (flat_len f) 127) 21 none (le-leb (flat_len f) 127 (subst (λ (k : ℕ). k ≤ 127) how-many l)))

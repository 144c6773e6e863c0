-- A value that is there or not: what a search or a test gives, and its laws for the ways out of a function and for the arms of its callers.
use Rattle.std.specs.Prelude.{Bool, true, false, cond, ◌≡◌, refl, Option, Some, None}

-- a where b holds, and else nothing
unfoldable pub some_if : {A : Type 0} → Bool → A → Option A
some_if b a = cond b (Some a) None

module _ {A : Type 0} where
  -- a way out with a value, and one without
  pub some_is : (b : Bool) (a : A) → b ≡ true → Some a ≡ some_if b a
  unfolding some_if
  some_is b a h = rw h

  pub none_is : (b : Bool) (a : A) → b ≡ false → None ≡ some_if b a
  unfolding some_if
  none_is b a h = rw h

  -- an arm with a value, and one without
  pub some_holds : (b : Bool) (a v : A) → Some v ≡ some_if b a → b ≡ true
  unfolding some_if
  some_holds true a v h = refl
  some_holds false a v h = search

  pub some_value : (b : Bool) (a v : A) → Some v ≡ some_if b a → v ≡ a
  unfolding some_if
  some_value true a v h = search
  some_value false a v h = search

  pub none_fails : (b : Bool) (a : A) → None ≡ some_if b a → b ≡ false
  unfolding some_if
  none_fails true a h = search
  none_fails false a h = refl

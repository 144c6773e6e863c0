-- What is told of a slot, step by step.
use Rattle.std.specs.Prelude.{Option, Some, None, IfSome}

-- more of what is told
pub told_more : {A : Type 0} {P Q : A → Type 0} (o : Option A) → ((x : A) → P x → Q x) → IfSome o P → IfSome o Q
told_more None f h = h
told_more (Some x) f h = f x h

-- An open view is one that a machine has on disk and does not know to be committed. What machines have sent in says that it counts, that it
-- was never served, both or neither. members: the view's own; known: the machines that have it as sure, or sent a view in whose list of
-- earlier views it stands; have: those that have it as an open view; lack: those that sent their views, and it is neither among these nor in
-- their lists; passed: those that sent a sure view of its number or a greater one, which is another view and has it not in its list.
use Rattle.std.specs.Prelude.{ℕ, Bool, cond, not, ◌&&◌, ◌||◌, eqb}
use Rattle.base_laws.specs.Definitions.{subset, disjoint}
use Rattle.history_open.specs.declared.Finding.{Finding}
use Rattle.history_open.specs.declared.Finding.TheVariants.{Sure, Never, Undecided, Contradicted}

-- it counts: somebody knows it, or all its members have it
unfoldable pub says_sure : ℕ → ℕ → ℕ → Bool
says_sure members known have = not (eqb known 0) || (not (eqb members 0) && subset members have)

-- it was never served: a member lacks it, or a sure view has passed it by
unfoldable pub says_never : ℕ → ℕ → ℕ → Bool
says_never members lack passed = not (disjoint members lack) || not (eqb passed 0)

unfoldable pub judged : ℕ → ℕ → ℕ → ℕ → ℕ → Finding
judged members known have lack passed =
    cond (says_sure members known have)
    (cond (says_never members lack passed) Contradicted Sure)
    (cond (says_never members lack passed) Never Undecided)

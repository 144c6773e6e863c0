-- Laws of standard input as far as it was read: reads are counted, and there are no more than the input has bytes for.
use Rattle.std.specs.Prelude.{ℕ, ◌+◌, ◌-◌, ◌≤◌, ◌<◌, Bool, true, ◌⊎◌, ◌≡◌, take}
use Rattle.std.proofs.Math.Bool.{false, cond}
use Rattle.std.proofs.Common.{true≢false, inl, inr, ⊎_elim, sym, ◌∙◌, subst, ne_eqb, length-take-le}
use mathlib.Core.List.{List, [], ◌∷◌, ◌++◌, append_assoc, append-nil}
use Rattle.std.proofs.Math.Path.{refl, ap}
use native.Mathlib.Omega.{arith}
use Rattle.std.proofs.Math.ListN.{length, length-append}
use Rattle.program_sums.specs.Definitions.{sum_of}
use Rattle.program_sums.specs.Sums.{sum_append}
use Rattle.program_input.specs.declared.Source.{Source}
use Rattle.program_input.specs.declared.Input.{Input}
use Rattle.program_input.specs.Definitions.{may_come, after_bytes, after_failure, endless, most, most_counted, read_to, ReadsOn, gave, failed, uncounted, Reads, no_read, one_more, Came}

-- ---- laws

-- how many reads can be made at most
unfoldable pub reads_left : Input → ℕ
reads_left x = most + 1 - x.reads + cond (may_come x.source) 1 0

one_at_most : (b : Bool) → cond {A = ℕ} b 1 0 ≤ 1
one_at_most true = omega arith
one_at_most false = omega arith

some-of : (n : ℕ) → 0 < n → may_come (after_bytes n) ≡ true
unfolding after_bytes
some-of n h = rw (ne_eqb n 0 (omega arith))

-- a read into l: the answer is that of its first bytes
module _ (x r : Input) (l : List ℕ) where
  pub read_uncounted : most < most_counted x → r ≡ endless x → (r.got ≤ length l) × ReadsOn x (take r.got l) r
  read_uncounted h e = subst (λ (y : Input). (y.got ≤ length l) × ReadsOn x (take y.got l) y) (sym e) (omega arith, uncounted h refl refl)

  pub read_failed : (bytes : List ℕ) (i : Bool) → most_counted x ≤ most → bytes ≡ [] → r ≡ read_to x bytes (after_failure i)
      → (r.got ≤ length l) × ReadsOn x (take r.got l) r
  read_failed bytes i c b e =
      let d : r ≡ read_to x [] (after_failure i) = e ∙ ap (λ (y : List ℕ). read_to x y (after_failure i)) b in
      subst (λ (y : Input). (y.got ≤ length l) × ReadsOn x (take y.got l) y) (sym d) (omega arith, failed i c refl refl)

  pub read_gave : (bytes : List ℕ) (n : ℕ) (s : Source) → most_counted x ≤ most → n ≤ length l → bytes ≡ take n l → s ≡ after_bytes n → r ≡ read_to x bytes s
      → (r.got ≤ length l) × ReadsOn x (take r.got l) r
  read_gave bytes n s c h b k e =
      let size : length bytes ≡ n = ap length b ∙ length-take-le n l h in
      let d : r ≡ read_to x bytes (after_bytes (length bytes)) = e ∙ ap (read_to x bytes) (k ∙ ap after_bytes (sym size)) in
      let same : take r.got l ≡ bytes = ap (λ (j : ℕ). take j l) (ap (λ (y : Input). y.got) d ∙ size) ∙ sym b in
      (omega (arith, size, ap (λ (y : Input). y.got) d), subst (λ (y : List ℕ). ReadsOn x y r) (sym same) (gave c d))

module _ (x : Input) (bytes : List ℕ) (r : Input) where
  was_open : may_come x.source ≡ true → cond {A = ℕ} (may_come x.source) 1 0 ≡ 1
  was_open h = ap (λ (b : Bool). cond {A = ℕ} b 1 0) h

  -- reading goes on for so long only
  pub reads_fall : may_come x.source ≡ true → ReadsOn x bytes r → reads_left r < reads_left x
  unfolding reads_left
  reads_fall h (gave c e) = omega (arith, was_open h, one_at_most (may_come r.source), ap (λ (y : Input). y.reads) e)
  reads_fall h (failed _ c _ e) = omega (arith, was_open h, one_at_most (may_come r.source), ap (λ (y : Input). y.reads) e)
  reads_fall h (uncounted _ _ e) =
      omega (arith, was_open h, ap (λ (y : Input). y.reads) e, ap (λ (y : Input). cond {A = ℕ} (may_come y.source) 1 0) e)

  -- no read makes it longer
  pub reads_no_more : ReadsOn x bytes r → reads_left r ≤ reads_left x
  unfolding reads_left
  reads_no_more (gave c e) = omega (arith, one_at_most (may_come r.source), ap (λ (y : Input). y.reads) e)
  reads_no_more (failed _ c _ e) = omega (arith, one_at_most (may_come r.source), ap (λ (y : Input). y.reads) e)
  reads_no_more (uncounted _ _ e) = omega (arith, ap (λ (y : Input). y.reads) e, ap (λ (y : Input). cond {A = ℕ} (may_come y.source) 1 0) e)

  -- what a read gave is counted and added up
  pub read_counts : ReadsOn x bytes r → (r.total ≡ x.total + length bytes) × (r.sum ≡ x.sum + sum_of bytes)
  unfolding sum_of
  read_counts (gave _ e) = (ap (λ (y : Input). y.total) e, ap (λ (y : Input). y.sum) e)
  read_counts (failed _ _ b e) =
      (ap (λ (y : Input). y.total) e ∙ ap (λ (l : List ℕ). x.total + length l) (sym b), ap (λ (y : Input). y.sum) e ∙ ap (λ (l : List ℕ). x.sum + sum_of l) (sym b))
  read_counts (uncounted _ b e) =
      (omega (arith, ap (λ (y : Input). y.total) e, ap length b), omega (arith, ap (λ (y : Input). y.sum) e, ap sum_of b))

  -- after a read that gave bytes more may come
  pub read_opens : ReadsOn x bytes r → may_come r.source ≡ false → bytes ≡ []
  unfolding after_bytes
  read_opens (gave _ e) h = none_of bytes (ap (λ (y : Input). may_come y.source) (sym e) ∙ h)
    where
      none_of : (l : List ℕ) → may_come (after_bytes (length l)) ≡ false → l ≡ []
      none_of [] g = refl
      none_of (b ∷ l) g = absurd (true≢false (sym (some-of (length (b ∷ l)) (omega arith)) ∙ g))
  read_opens (failed _ _ b _) h = b
  read_opens (uncounted _ b _) h = b

module _ {x : Input} where
  -- what reads gave is counted and added up: bytes that came are told by their number and their sum
  pub reads_count : {bytes : List ℕ} {r : Input} → Reads x bytes r → (r.total ≡ x.total + length bytes) × (r.sum ≡ x.sum + sum_of bytes)
  unfolding sum_of
  reads_count no_read = (omega arith, omega arith)
  reads_count (one_more a b y r p q) =
      let before = reads_count p in
      let now = read_counts y b r q in
      (omega (arith, before.0, now.0, length-append a b), omega (arith, before.1, now.1, sum_append a b))

  -- reads from an input to which more may come: none, or so many fewer are left
  pub reads_fewer : {bytes : List ℕ} {r : Input} → may_come x.source ≡ true → Reads x bytes r → (r ≡ x) ⊎ (reads_left r < reads_left x)
  reads_fewer h no_read = inl refl
  reads_fewer h (one_more a b y r p q) =
      inr
      (⊎_elim (λ e. subst (λ (z : Input). reads_left r < reads_left z) e (reads_fall y b r (ap (λ (z : Input). may_come z.source) e ∙ h) q))
      (λ l. omega (arith, reads_no_more y b r q)) (reads_fewer h p))

  -- reads, and then others
  pub reads_then : {a : List ℕ} {y : Input} {b : List ℕ} {r : Input} → Reads x a y → Reads y b r → Reads x (a ++ b) r
  reads_then {a} {r = r} p no_read = subst (λ (l : List ℕ). Reads x l r) (sym (append-nil a)) p
  reads_then {a} {r = r} p (one_more c d z _ q s) =
      subst (λ (l : List ℕ). Reads x l r) (append_assoc a c d) (one_more (a ++ c) d z r (reads_then p q) s)

pub came_counts : {bytes : List ℕ} {r : Input} → Came bytes r → (length bytes ≡ r.total) × (sum_of bytes ≡ r.sum)
came_counts p = let c = reads_count p in (omega (arith, c.0), omega (arith, c.1))

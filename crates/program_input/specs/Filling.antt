-- Laws for the loop that fills a block: a read into its end, and where the loop ends.
use Rattle.std.specs.Prelude.{ℕ, ◌+◌, ◌-◌, ◌≤◌, ◌<◌, true, false, ◌≡◌}
use Rattle.std.proofs.Common.{true≢false, ⊎_elim, sym, ◌∙◌, subst, arith, length-take, length-drop}
use mathlib.Core.List.{List, ◌++◌}
use Rattle.std.proofs.Math.Path.{ap}
use Rattle.std.proofs.Math.ListN.{length, take, drop}
use Rattle.std.proofs.Math.Seq.{length-take-le, take-append-add}
use Rattle.std.proofs.lemmas.List.{take-append-le}
use borrow.Rule.Slice.PartMut.{put_mid}
use Rattle.base_laws.specs.Definitions.{replaced}
use Rattle.base_laws.specs.Tables.{put_replaced, length_replaced}
use Rattle.program_input.specs.declared.Input.{Input}
use Rattle.program_input.specs.Definitions.{may_come, ReadsOn, Reads, no_read, one_more, Fills}
use Rattle.program_input.specs.Inputs.{reads_left, reads_count, reads_fewer, read_opens}

-- what is known before a read: reads have led from x to y, what they gave is the first `len` bytes of the block, and there is room where no more comes
pub record Filling (x : Input) (block : List ℕ) (y : Input) (len : ℕ) : Type 0 where
  pub reads : Reads x (take len block) y
  pub within : len ≤ length block
  pub room : may_come y.source ≡ false → len < length block

pub filling_none : (x : Input) (block : List ℕ) → 0 < length block → Filling x block x 0
filling_none x block h = record { reads = no_read; within = omega arith; room = λ _. h }

-- the end of the block is lent to a read
pub length_lent : (block : List ℕ) (len : ℕ) → length (take (length block - len) (drop len block)) ≡ length block - len
length_lent block len = simp (length-take, length-drop) (omega arith)

module _ (block last : List ℕ) (len : ℕ) (h : len ≤ length block) (e : length last ≡ length (take (length block - len) (drop len block))) where
  lent_size : length last ≡ length block - len
  lent_size = e ∙ length_lent block len

  pub lent_length : length (put_mid len (length block - len) block last) ≡ length block
  lent_length = ap length (put_replaced len (length block - len) block last lent_size) ∙ length_replaced len last block (omega (arith, lent_size))

  lent_front : (n : ℕ) → n ≤ length last → take (len + n) (put_mid len (length block - len) block last) ≡ take len block ++ take n last
  unfolding replaced
  lent_front n l =
      let front : length (take len block) ≡ len = length-take-le len block h in
      ap (take (len + n)) (put_replaced len (length block - len) block last lent_size)
      ∙ ap (λ (k : ℕ). take (k + n) (take len block ++ (last ++ drop (len + length last) block))) (sym front)
      ∙ take-append-add (take len block) (last ++ drop (len + length last) block) n
      ∙ ap (λ (q : List ℕ). take len block ++ q) (take-append-le n last (drop (len + length last) block) l)

  -- .. and the next turn
  pub filling_turn : (x y r : Input) (n : ℕ) → Filling x block y len → len < length block → n ≡ r.got → r.got ≤ length last
      → ReadsOn y (take r.got last) r
      → Filling x (put_mid len (length block - len) block last) r (len + n)
  filling_turn x y r n f l d g p =
      record {
        reads =
            subst (λ (q : List ℕ). Reads x q r) (sym (ap (λ (k : ℕ). take (len + k) (put_mid len (length block - len) block last)) d ∙ lent_front r.got g))
            (one_more (take len block) (take r.got last) y r f.reads p);
        within = omega (arith, lent_length, lent_size);
        room =
            λ c.
            let none : r.got ≡ 0 = sym (length-take-le r.got last g) ∙ ap length (read_opens y (take r.got last) r p c) in
            omega (arith, lent_length);
      }

-- the block is full, or no more comes
pub fills_full : {x : Input} {block : List ℕ} {y : Input} {len : ℕ} → Filling x block y len → may_come y.source ≡ true → length block ≤ len → Fills x block y len
fills_full f c h = record { reads = f.reads; full = λ _. omega (arith, f.within); short = λ d. absurd (true≢false (sym c ∙ d)) }

pub fills_short : {x : Input} {block : List ℕ} {y : Input} {len : ℕ} → Filling x block y len → may_come y.source ≡ false → Fills x block y len
fills_short f c = record { reads = f.reads; full = λ d. absurd (true≢false (sym d ∙ c)); short = f.room }

-- a block is filled by reads, of which so many fewer are left
pub fills_fall : {x : Input} {block : List ℕ} {r : Input} {len : ℕ} → 0 < length block → may_come x.source ≡ true → Fills x block r len
    → reads_left r < reads_left x
fills_fall {x} {block} {r} {len} s h f =
    ⊎_elim
    (λ e.
    let all : len ≡ length block = f.full (ap (λ (y : Input). may_come y.source) e ∙ h) in
    absurd (omega (arith, (reads_count f.reads).0, ap (λ (y : Input). y.total) e, length-take len block)))
    (λ l. l) (reads_fewer h f.reads)

-- An order passes rows 9, 16, 17, 10 and 11 where its masks pass row 10, targets and cuts are positions before its view, and holders are
-- among its members. Rows 9, 16 and 17 go by the parts of the order, rows 10 and 11 by what each part says.
use Rattle.std.specs.Prelude.{ℕ, zero, suc, ◌+◌, ◌*◌, ◌-◌, ◌<◌, ◌≤◌, not, ◌&&◌, ◌||◌, List, ◌≡◌, leb}
use native.Mathlib.Omega.{arith}
use Rattle.std.proofs.Math.Bool.{true, false}
use Rattle.std.proofs.Math.Path.{refl, sym, subst}
use Rattle.std.proofs.Common.{ap, ◌∙◌, eqb-true, eq-eqb, lt-ltb}
use Rattle.std.proofs.Math.Dec.{eqb, ltb}
use Rattle.std.proofs.Math.Pow.{pow_pos}
use Rattle.base_laws.specs.Bools.{and_both, and_left, and_right, or_left, or_right, not_of_false, not_of_true}
use Rattle.base_laws.specs.Definitions.{all_below, has, subset}
use Rattle.base_laws.specs.Below.{all_of}
use Rattle.base_laws.specs.Masks.{subset_of, width}
use Rattle.settings_values.specs.Definitions.{shards}
use Rattle.message_format.specs.declared.Form.TheVariants.{Order}
use Rattle.message_format.specs.Definitions.{tag, word1, kind, record_shard, precedes, shards_of, carried_by, members_of, kind_ok, plain, kind_at, shard_at, surplus, sequence_at, every_shard, complete, row10, is_position, view_fits, legal, row11_at}
use Rattle.message_format.specs.Laws.{where_has, where_at}
use Rattle.message_format.specs.Passed.{RecordsPass}
use Rattle.message_format.specs.Alike.{row10_same}
use Rattle.base_sum_laws.specs.Ranks.{rank_rises}
use Rattle.plan_order_laws.specs.Parts.{OrderSays, carries_by, rank, BodySays, RecordSays, RecordPlace, a_members, a_target, a_holder, a_cut, kind_of, shard_of, first_word, second_of, tag_of, says_kind, says_shard, part_of, shard_below, tags_rise, said}
use Rattle.plan_order_laws.specs.Passing.{Fitting}

module _ (σ : List ℕ) (node : ℕ) (a : OrderSays) (b : List ℕ) (len : ℕ) (o : BodySays (shards σ) node a b len) where
  says : {j : ℕ} (q : RecordPlace (shards σ) node a j) → RecordSays b j (kind_of q) (shard_of q) (first_word q) (second_of q)
  says q = said (shards σ) node a b len o q

  -- the part of a record of the order
  in-part : (j : ℕ) → j < len → RecordPlace (shards σ) node a j
  in-part j l = part_of (shards σ) node a j (omega (arith, o.count))

  small : {j : ℕ} (q : RecordPlace (shards σ) node a j) → shard_of q < 256
  small q = omega (arith, shard_below (shards σ) node a q, o.few)

  kind_is : {j : ℕ} (q : RecordPlace (shards σ) node a j) → kind b j ≡ kind_of q
  kind_is q = says_kind (small q) (says q)

  shard_is : {j : ℕ} (q : RecordPlace (shards σ) node a j) → record_shard b j ≡ shard_of q
  shard_is q = says_shard (small q) (says q)

  -- row 9: kinds and word 2
  kind_passes : {j : ℕ} (q : RecordPlace (shards σ) node a j) → (kind_ok Order (kind_of q) && plain (kind_of q) (second_of q)) ≡ true
  unfolding kind_ok plain kind_of second_of
  kind_passes (a_members s l e) = refl
  kind_passes (a_target s l e) = refl
  kind_passes (a_holder s l p e) = refl
  kind_passes (a_cut s l p e) = refl

  kinds_pass : all_below len (kind_at Order b) ≡ true
  unfolding kind_at
  kinds_pass =
      all_of len (kind_at Order b) (λ j l.
      let q = in-part j l in
      rw (kind_is q, (says q).second) (kind_passes q))

  -- row 16: the shards
  shards_pass : all_below len (shard_at σ b) ≡ true
  unfolding shard_at
  shards_pass =
      all_of len (shard_at σ b) (λ j l.
      let q = in-part j l in
      rw (shard_is q) (lt-ltb (shard_of q) (shards σ) (shard_below (shards σ) node a q)))

  -- row 17: the sequence
  in-order : (i j : ℕ) → i < j → j < len → precedes b i j ≡ true
  unfolding precedes tag_of
  in-order i j l m =
      let p = in-part i (omega arith) in
      let q = in-part j m in
      or_left (eqb (tag b i) (tag b j) && (eqb (kind b j) 3 && ltb (word1 b i) (word1 b j)))
      (lt-ltb (tag b i) (tag b j) (omega (arith, (says p).tagged, (says q).tagged, tags_rise (shards σ) node a o.few p q l)))

  after_last : (j : ℕ) → j < len → (eqb j 0 || precedes b (j - 1) j) ≡ true
  after_last zero l = refl
  after_last (suc j) l = or_right (eqb (suc j) 0) (in-order (suc j - 1) (suc j) (omega arith) l)

  -- a shard that the node carries is among those that the first n records, all masks among them, say it carries
  carried_named : (s n : ℕ) → s < shards σ → carries_by a node s ≡ true → shards σ ≤ n → has (carried_by node b n) s ≡ true
  unfolding kind_of shard_of
  carried_named s n l p m =
      let q : RecordPlace (shards σ) node a s = a_members s l refl in
      subst (λ (x : ℕ). has (carried_by node b n) x ≡ true) (shard_is q)
      (where_at (λ j. eqb (kind b j) 1 && has (word1 b j) node) b n s (omega arith)
      (and_both (eq-eqb (kind b s) 1 (kind_is q)) (ap (λ (x : ℕ). has x node) (o.members-at s l).first ∙ p)))

  -- no record is surplus
  not_surplus : {j : ℕ} (q : RecordPlace (shards σ) node a j) → (leb 4 (kind_of q) && not (has (carried_by node b j) (shard_of q))) ≡ false
  unfolding kind_of shard_of
  not_surplus (a_members s l e) = refl
  not_surplus (a_target s l e) = refl
  not_surplus {j} (a_holder s l p e) = not_of_true (carried_named s j l p (omega arith))
  not_surplus {j} (a_cut s l p e) = not_of_true (carried_named s j l p (omega arith))

  sequence_passes : all_below len (sequence_at node b) ≡ true
  unfolding sequence_at surplus
  sequence_passes =
      all_of len (sequence_at node b) (λ j l.
      let q = in-part j l in
      let none : surplus node b j ≡ false = rw (kind_is q, shard_is q) (not_surplus q) in
      and_both (after_last j l) (not_of_false none))

  -- row 17: nothing is missing
  named_of : (k j : ℕ) (q : RecordPlace (shards σ) node a j) → j < len → kind_of q ≡ k → has (shards_of k b len) (shard_of q) ≡ true
  named_of k j q l e =
      subst (λ (x : ℕ). has (shards_of k b len) x ≡ true) (shard_is q)
      (where_at (λ i. eqb (kind b i) k) b len j l (eq-eqb (kind b j) k (kind_is q ∙ e)))

  -- the node carries what the members' records say
  carried-by : (s : ℕ) → has (carried_by node b len) s ≡ true → (s < shards σ) × (carries_by a node s ≡ true)
  unfolding kind_of shard_of first_word
  carried-by s h =
      let w = where_has (λ j. eqb (kind b j) 1 && has (word1 b j) node) b len s h in
      let p = and_left (eqb (kind b w.0) 1) (has (word1 b w.0) node) w.2 in
      go w.0 (in-part w.0 w.1) (eqb-true (kind b w.0) 1 p) (and_right (eqb (kind b w.0) 1) (has (word1 b w.0) node) w.2) w.3
    where
      go : (j : ℕ) (q : RecordPlace (shards σ) node a j) → kind b j ≡ 1 → has (word1 b j) node ≡ true → record_shard b j ≡ s → (s < shards σ) × (carries_by a node s ≡ true)
      go j (a_members t l e) k h d =
          let same : t ≡ s = sym (shard_is (a_members t l e)) ∙ d in (
            omega arith,
            subst (λ (x : ℕ). carries_by a node x ≡ true) same (ap (λ (x : ℕ). has x node) (sym (says (a_members t l e)).first) ∙ h),
          )
      go j (a_target t l e) k h d = absurd (omega (arith, kind_is (a_target t l e)))
      go j (a_holder t l p e) k h d = absurd (omega (arith, kind_is (a_holder t l p e)))
      go j (a_cut t l p e) k h d = absurd (omega (arith, kind_is (a_cut t l p e)))

  -- each shard has its members and its target, and each that the node carries its holder and its cut
  all_members : subset (every_shard σ) (shards_of 1 b len) ≡ true
  unfolding kind_of shard_of
  all_members =
      subset_of (shards σ) (every_shard σ) (shards_of 1 b len) (omega (arith, pow_pos (shards σ)))
      (λ s l h. named_of 1 s (a_members s l refl) (omega (arith, o.count)) refl)

  all_targets : subset (every_shard σ) (shards_of 2 b len) ≡ true
  unfolding kind_of shard_of
  all_targets =
      subset_of (shards σ) (every_shard σ) (shards_of 2 b len) (omega (arith, pow_pos (shards σ)))
      (λ s l h. named_of 2 (shards σ + s) (a_target s l refl) (omega (arith, o.count)) refl)

  all_holders : subset (carried_by node b len) (shards_of 4 b len) ≡ true
  unfolding kind_of shard_of
  all_holders =
      subset_of (carried_by node b len) (carried_by node b len) (shards_of 4 b len) (width (carried_by node b len))
      (λ s m h.
      let c = carried-by s h in
      named_of 4 (2 * shards σ + rank a node s) (a_holder s c.0 c.1 refl)
      (omega (arith, o.count, rank_rises (carries_by a node) s (shards σ) c.0 c.1)) refl)

  all_cuts : subset (carried_by node b len) (shards_of 5 b len) ≡ true
  unfolding kind_of shard_of
  all_cuts =
      subset_of (carried_by node b len) (carried_by node b len) (shards_of 5 b len) (width (carried_by node b len))
      (λ s m h.
      let c = carried-by s h in
      named_of 5 (2 * shards σ + rank a node (shards σ) + rank a node s) (a_cut s c.0 c.1 refl)
      (omega (arith, o.count, rank_rises (carries_by a node) s (shards σ) c.0 c.1)) refl)

  complete_passes : complete Order σ node b len ≡ true
  unfolding complete
  complete_passes = and_both (and_both (and_both all_members all_targets) all_holders) all_cuts

  module _ (view members : ℕ) (g : Fitting σ node view members a) where
    -- row 10
    masks-pass : row10 σ members (members_of b) ≡ true
    masks-pass = row10_same σ members (members_of b) a.members (λ s l. (o.members-at s l).first) ∙ g.masks_fit

    -- row 11
    earlier : (x y : ℕ) → is_position x y ≡ true → x < view → (is_position x y && view_fits Order view x) ≡ true
    unfolding view_fits
    earlier x y p l = and_both p (lt-ltb x view l)

    legal_at : {j : ℕ} (q : RecordPlace (shards σ) node a j) → legal Order view members (kind_of q) (first_word q) (second_of q) ≡ true
    unfolding legal kind_of first_word second_of
    legal_at (a_members s l e) = refl
    legal_at (a_target s l e) = earlier _ _ (g.target_legal s l) (g.target_earlier s l)
    legal_at (a_holder s l p e) = and_both (lt-ltb (a.holder s) 32 (g.holder_node s l)) (g.holder_member s l)
    legal_at (a_cut s l p e) = earlier _ _ (g.cut_legal s l p) (g.cut_earlier s l p)

    positions-pass : all_below len (row11_at Order view members b) ≡ true
    unfolding row11_at
    positions-pass =
        all_of len (row11_at Order view members b) (λ j l.
        let q = in-part j l in
        rw (kind_is q, (says q).first, (says q).second) (legal_at q))

    pub order_records_pass : RecordsPass Order σ node view members b len
    order_records_pass =
        record {
          kinds_pass = kinds_pass;
          shards_pass = shards_pass;
          sequence_passes = sequence_passes;
          complete_passes = complete_passes;
          masks-pass = masks-pass;
          positions-pass = positions-pass;
        }

-- A slot that the walk tells is a sound report of the kept view. The same holds of a shorter message that has the last record.
use Rattle.std.specs.Prelude.{◌≡◌, ℕ, zero, suc, ◌+◌, ◌-◌, ◌*◌, ◌/◌, ◌%◌, ◌<◌, ◌≤◌, true, ◌⊎◌, List, length, ◌≢◌, slice_index, slice_index_or}
use Rattle.std.proofs.Common.{le_refl, arith, sym, ap, ◌∙◌}
use Rattle.std.proofs.Math.Logic.{inl, inr, ⊎_elim}
use Rattle.std.proofs.Math.Path.{refl, subst}
use borrow.Author.Tests.{lt-ltb, le-leb, eq-eqb}
use Rattle.base_laws.specs.Bools.{and_both, lt_or_le, eq_or_ne}
use Rattle.base_laws.specs.Masks.{within_has}
use Rattle.base_ids.specs.declared.Refusal.{Refusal}
use Rattle.settings_values.specs.Definitions.{nodes, shards, Settings}
use Rattle.message_format.specs.declared.Form.TheVariants.{Report}
use Rattle.message_format.specs.Definitions.{row6, row7, row10, is_position, contents_of}
use Rattle.message_format.specs.Shorthands.{records}
use Rattle.message_format.specs.Alike.{row10_same}
use Rattle.message_format.specs.Passed.{HeadPasses, MessagePasses, message_none}
use Rattle.report_views.specs.declared.Layout.{Layout}
use Rattle.report_views.specs.declared.Termination.{Termination}
use Rattle.report_views.specs.Definitions.{slot, report_of, mask_at, position_at, row12, row13, term_kept, slot_ok}
use Rattle.report_quick.specs.Told.{MemberTold, PositionTold, RunTold, RunsTold, mask_told, MasksFit, PositionFits}
use Rattle.report_quick.specs.Accepts.{FrontTold, Ending, few_words, front_passes, front_row12, front_row13, front_kept}
use Rattle.report_walk.specs.Pairs.{FitWords, pairs_of, pair-at, pair_low, pair_high}
use Rattle.report_walk.specs.Seen.{key_of, before_at, RunsSeen, RunsAfter, PositionsSeen, SlotTold, MaskRecords, PositionRecords, KeptReady, before_first, before_next}

-- the walk over the pairs b of the words w by the kept view and termination, from the list k to l, ends with record n
pub record Walked (σ : List ℕ) (v : Layout) (t : Termination) (w b masks positions k l : List ℕ) (node n : ℕ) : Type 0 where
  pub right : Settings σ
  pub kept : KeptReady σ v t
  pub words : FitWords w
  pub pairs : b ≡ pairs_of w
  pub members : MaskRecords v.masks masks
  pub ends : PositionRecords t.positions (shards σ) positions
  pub seen : SlotTold v.number.0 v.members masks t.made positions (shards σ) b node k l n

-- keys rise by tag, then by word 1
key_order : (x y a c : ℕ) → y < 4294967296 → c < 4294967296 → 4294967296 * x + y < 4294967296 * a + c → (x < a) ⊎ ((x ≡ a) × (y < c))
key_order x y a c h i l = ⊎_elim (λ e. inr (e, omega arith)) (λ e. inl (omega (arith, lt_of e))) (eq_or_ne x a)
  where
    lt_of : (x ≢ a) → x < a
    lt_of e = ⊎_elim (λ m. m) (λ m. absurd (e (omega arith))) (lt_or_le x a)

module _ {σ : List ℕ} {v : Layout} {t : Termination} {w b masks positions k l : List ℕ} {node n : ℕ} (g : Walked σ v t w b masks positions k l node n) where
  -- the number of shards
  abbrev shard_count : ℕ
  shard_count = shards σ

  few : shard_count ≤ 16
  few = g.right.sizes.shards_to

  some : 1 ≤ shard_count
  some = g.right.sizes.shards_from

  -- the report's view
  abbrev report_view : ℕ
  report_view = v.number.0

  pub low_at : (i a : ℕ) → a ≡ 2 * i → i < 256 → slice_index w a ≡ slice_index b i % 4294967296
  low_at i a e h =
      ap (λ (x : ℕ). slice_index w x) e ∙ (sym (pair_low w g.words i) ∙ (ap (λ (x : ℕ). x % 4294967296) (sym (pair-at w i h)) ∙ ap (λ (x : List ℕ). slice_index x i % 4294967296) (sym g.pairs)))

  pub high_at : (i a : ℕ) → a ≡ 2 * i + 1 → i < 256 → slice_index w a ≡ slice_index b i / 4294967296
  high_at i a e h =
      ap (λ (x : ℕ). slice_index w x) e ∙ (sym (pair_high w g.words i) ∙ (ap (λ (x : ℕ). x / 4294967296) (sym (pair-at w i h)) ∙ ap (λ (x : List ℕ). slice_index x i / 4294967296) (sym g.pairs)))

  -- pair i of the records of members
  mask_pair : (i j : ℕ) → i ≡ 2 + j → j < 2 * shard_count - 1 → slice_index b i ≡ slice_index masks j
  mask_pair i j e h = ap (λ (x : ℕ). slice_index b x) e ∙ g.seen.front.same j h

  -- the head
  node_is : slice_index_or w 0 0 ≡ node
  node_is = omega (arith, low_at 0 0 refl (omega arith), g.seen.front.head_front, g.seen.front.node_fits)

  view_is : slice_index_or w 1 0 ≡ report_view
  view_is = omega (arith, high_at 0 1 refl (omega arith), g.seen.front.head_front, g.seen.front.node_fits)

  members_is : slice_index_or w 2 0 ≡ v.members
  members_is = omega (arith, low_at 1 2 refl (omega arith), g.seen.front.head_back, g.seen.front.members_fit)

  -- the record of the members of shard s
  member_linked : (s : ℕ) → s < shard_count → slice_index w (4 * s + 3) ≡ s + 1
  member_linked zero h = omega (arith, high_at 1 3 refl (omega arith), g.seen.front.head_back, g.seen.front.members_fit)
  member_linked (suc s) h =
      omega (arith, high_at (2 * s + 3) (4 * suc s + 3) (omega arith) (omega (arith, few)), mask_pair (2 * s + 3) (2 * s + 1) (omega arith) (omega arith), g.members.backs s (omega (arith, few)))

  member_front : (s : ℕ) → s < shard_count → slice_index b (2 * s + 2) ≡ 256 + s + 4294967296 * mask_at v s
  member_front s h = mask_pair (2 * s + 2) (2 * s) (omega arith) (omega arith) ∙ g.members.fronts s (omega (arith, few))

  member_plain : (s : ℕ) → s < shard_count → slice_index b (2 * s + 3) % 4294967296 ≡ 0
  member_plain s h =
      ⊎_elim
      (λ i. omega (arith, mask_pair (2 * s + 3) (2 * s + 1) (omega arith) (omega arith), g.members.backs s (omega (arith, few))))
      (λ i. let e : 2 * s + 3 ≡ 2 * shard_count + 1 = omega arith in ap (λ (x : ℕ). slice_index b x % 4294967296) e ∙ g.seen.front.last)
      (lt_or_le (s + 1) shard_count)

  member : (s : ℕ) → s < shard_count → MemberTold w s
  member s h =
      record {
        linked = member_linked s h;
        tagged = omega (arith, low_at (2 * s + 2) (4 * s + 4) (omega arith) (omega (arith, few)), member_front s h, few);
        plain = low_at (2 * s + 3) (4 * s + 6) (omega arith) (omega (arith, few)) ∙ member_plain s h;
      }

  mask : (s : ℕ) → s < shard_count → mask_told w s ≡ mask_at v s
  mask s h = omega (arith, high_at (2 * s + 2) (4 * s + 5) (omega arith) (omega (arith, few)), member_front s h, few)

  -- the record of the position of shard s
  module _ (p : PositionsSeen b t.made positions shard_count) where
    position_pair : (i j : ℕ) → i ≡ 2 * (shard_count + 1) + j → j < 2 * shard_count - 1 → slice_index b i ≡ slice_index positions j
    position_pair i j e h = ap (λ (x : ℕ). slice_index b x) e ∙ p.same j h

    position_linked : (s : ℕ) → s < shard_count → slice_index w (4 * (shard_count + s) + 3) ≡ shard_count + s + 1
    position_linked zero h =
        high_at (2 * shard_count + 1) (4 * (shard_count + 0) + 3) (omega arith) (omega (arith, few)) ∙ (p.linked ∙ omega arith)
    position_linked (suc s) h =
        omega (arith, high_at (2 * shard_count + 2 * s + 3) (4 * (shard_count + suc s) + 3) (omega arith) (omega (arith, few)), position_pair (2 * shard_count + 2 * s + 3) (2 * s + 1) (omega arith) (omega arith), g.ends.backs s (omega (arith, few)), g.ends.fit s (omega (arith, few)))

    position_front : (s : ℕ) → s < shard_count → slice_index b (2 * shard_count + 2 * s + 2) ≡ 512 + s + 4294967296 * (position_at t s).view.0
    position_front s h = position_pair (2 * shard_count + 2 * s + 2) (2 * s) (omega arith) (omega arith) ∙ g.ends.fronts s (omega (arith, few))

    position_back : (s : ℕ) → s < shard_count → slice_index b (2 * shard_count + 2 * s + 3) % 4294967296 ≡ (position_at t s).k
    position_back s h =
        ⊎_elim
        (λ i. omega (arith, position_pair (2 * shard_count + 2 * s + 3) (2 * s + 1) (omega arith) (omega arith), g.ends.backs s (omega (arith, few)), g.ends.fit s (omega (arith, few))))
        (λ i. let e : 2 * shard_count + 2 * s + 3 ≡ 4 * shard_count + 1 = omega arith in
        let d : 2 * shard_count - 1 ≡ 2 * s + 1 = omega arith in
        ap (λ (x : ℕ). slice_index b x % 4294967296) e ∙ (p.last ∙ (ap (λ (x : ℕ). slice_index positions x % 4294967296) d ∙ omega (arith, g.ends.backs s (omega (arith, few)), g.ends.fit s (omega (arith, few))))))
        (lt_or_le (s + 1) shard_count)

    position_fits : (s : ℕ) → s < shard_count → PositionFits t w (shard_count + s) s
    position_fits s h =
        record {
          view = omega (arith, high_at (2 * shard_count + 2 * s + 2) (4 * (shard_count + s) + 5) (omega arith) (omega (arith, few)), position_front s h, few);
          k = low_at (2 * shard_count + 2 * s + 3) (4 * (shard_count + s) + 6) (omega arith) (omega (arith, few)) ∙ position_back s h;
        }

    position_told : (s : ℕ) → s < shard_count → PositionTold w report_view (shard_count + s) s
    position_told s h =
        let f = position_fits s h in
        let q = g.kept.positions p.kept s h in
        record {
          linked = position_linked s h;
          tagged = omega (arith, low_at (2 * shard_count + 2 * s + 2) (4 * (shard_count + s) + 4) (omega arith) (omega (arith, few)), position_front s h, few);
          view_to = omega (arith, f.view, q.view_to);
          placed = subst (λ (x : ℕ). is_position x (slice_index w (4 * (shard_count + s) + 6)) ≡ true) (sym f.view) (subst (λ (x : ℕ). is_position (position_at t s).view.0 x ≡ true) (sym f.k) q.placed);
        }

  -- the last record before the runs
  abbrev pub front_of : ℕ
  front_of = g.seen.rest.front

  front_to : (1 ≤ front_of) × (front_of ≤ 32)
  front_to = ⊎_elim (λ e. (omega (arith, some), omega (arith, few))) (λ e. (omega (arith, some, e.0), omega (arith, few, e.0))) g.seen.rest.ending

  pub front_told : FrontTold w shard_count report_view front_of
  front_told =
      record {
        members = member;
        positions = ⊎_elim (λ e. inl e) (λ e. inr (e.0, position_told e.1)) g.seen.rest.ending;
      }

  -- the records up to it are no runs
  pub front_tags : (j : ℕ) → j < front_of → slice_index w (4 * j + 4) < 768
  front_tags j h =
      ⊎_elim (λ i. omega (arith, (member j i).tagged, few))
      (λ i.
      ⊎_elim (λ e. absurd (omega arith))
      (λ e. let d : 4 * j + 4 ≡ 4 * (shard_count + (j - shard_count)) + 4 = omega arith in
      omega (arith, ap (λ (x : ℕ). slice_index w x) d, (position_told e.1 (j - shard_count) (omega (arith, e.0))).tagged, few, e.0))
      g.seen.rest.ending)
      (lt_or_le j shard_count)

  front_tag : slice_index_or w (4 * front_of) 0 < 768
  front_tag =
      let d : 4 * front_of ≡ 4 * (front_of - 1) + 4 = omega (arith, front_to.0) in
      omega (arith, ap (λ (x : ℕ). slice_index w x) d, front_tags (front_of - 1) (omega (arith, front_to.0)))

  -- the runs
  module _ (linked : slice_index_or b (2 * front_of + 1) 0 / 4294967296 ≡ front_of + 1) (r : RunsSeen b (front_of + 1) shard_count report_view k l n) where
    abbrev key : ℕ → ℕ
    key j = key_of (slice_index b (2 * j))

    key_is : (j : ℕ) → j ≤ 127 → key j ≡ 4294967296 * slice_index w (4 * j) + slice_index w (4 * j + 1)
    unfolding key_of
    key_is j h = rw (low_at (2 * j) (4 * j) (omega arith) (omega arith), high_at (2 * j) (4 * j + 1) (omega arith) (omega arith)) refl

    -- record j is a run
    record RunFacts (j : ℕ) : Type 0 where
      pub rises : before_at b (front_of + 1) j < key j
      pub view_from : 1 ≤ slice_index w (4 * j + 1)
      pub view_to : slice_index_or w (4 * j + 1) 0 ≤ report_view
      pub some_k : 1 ≤ slice_index w (4 * j + 2)

    run_at : (j : ℕ) → front_of < j → j ≤ n → RunFacts j
    run_at j h i =
        ⊎_elim
        (λ m. let s = r.on.each j (omega arith) m in
        record {
          rises = s.rises;
          view_from = omega (arith, high, s.view_from);
          view_to = omega (arith, high, s.view_to);
          some_k = omega (arith, low, s.some);
        })
        (λ m. let e : j ≡ n = omega arith in
        record {
          rises = subst (λ (x : ℕ). before_at b (front_of + 1) x < key x) (sym e) r.last.rises;
          view_from = omega (arith, high, subst (λ (x : ℕ). 1 ≤ slice_index b (2 * x) / 4294967296) (sym e) r.last.view_from);
          view_to = omega (arith, high, subst (λ (x : ℕ). slice_index b (2 * x) / 4294967296 ≤ report_view) (sym e) r.last.view_to);
          some_k = omega (arith, low, subst (λ (x : ℕ). 1 ≤ slice_index b (2 * x + 1) % 4294967296) (sym e) (omega (arith, r.last.some, r.last.end)));
        })
        (lt_or_le j n)
      where
        high : slice_index_or w (4 * j + 1) 0 ≡ slice_index b (2 * j) / 4294967296
        high = high_at (2 * j) (4 * j + 1) (omega arith) (omega (arith, r.on.few))

        low : slice_index_or w (4 * j + 2) 0 ≡ slice_index b (2 * j + 1) % 4294967296
        low = low_at (2 * j + 1) (4 * j + 2) (omega arith) (omega (arith, r.on.few))

    -- a run's key is above that of the run before it
    key_next : (j : ℕ) → front_of < j → j + 1 ≤ n → key j < key (j + 1)
    key_next j h i = omega (arith, before_next b (front_of + 1) j (omega arith), (run_at (j + 1) (omega arith) i).rises)

    keys_rise : (d j : ℕ) → front_of < j → j + d ≤ n → key j ≤ key (j + d)
    keys_rise zero j h i = let e : j ≡ j + 0 = omega arith in subst (λ (x : ℕ). key j ≤ key x) e (le_refl (key j))
    keys_rise (suc d) j h i =
        let e : j + d + 1 ≡ j + suc d = omega arith in
        subst (λ (x : ℕ). key j ≤ key x) e (omega (arith, keys_rise d j h (omega arith), key_next (j + d) (omega arith) (omega arith)))

    pub run_low : (j : ℕ) → front_of < j → j ≤ n → 768 ≤ slice_index w (4 * j)
    run_low j h i =
        let e : front_of + 1 + (j - (front_of + 1)) ≡ j = omega arith in
        let up : key (front_of + 1) ≤ key j = subst (λ (x : ℕ). key (front_of + 1) ≤ key x) e (keys_rise (j - (front_of + 1)) (front_of + 1) (omega arith) (omega arith)) in
        let first = (run_at (front_of + 1) (omega arith) (omega arith)).rises in
        tag_from (slice_index w (4 * j)) (slice_index w (4 * j + 1)) (g.words (4 * j + 1)) (omega (arith, first, up, before_first b (front_of + 1), key_is j (omega (arith, r.on.few))))
      where
        tag_from : (x y : ℕ) → y < 4294967296 → 3298534883328 < 4294967296 * x + y → 768 ≤ x
        tag_from x y a c = omega arith

    pub run_high : (j : ℕ) → front_of < j → j ≤ n → slice_index w (4 * j) < 768 + shard_count
    run_high j h i =
        let e : j + (n - j) ≡ n = omega arith in
        let up : key j ≤ key n = subst (λ (x : ℕ). key j ≤ key x) e (keys_rise (n - j) j h (omega arith)) in
        let top : slice_index_or w (4 * n) 0 < 768 + shard_count = omega (arith, low_at (2 * n) (4 * n) (omega arith) (omega (arith, r.on.few)), r.last.high) in
        tag_to (slice_index w (4 * j)) (slice_index w (4 * j + 1)) (slice_index w (4 * n)) (slice_index w (4 * n + 1)) (768 + shard_count) (g.words (4 * n + 1)) top (omega (arith, up, key_is j (omega (arith, r.on.few)), key_is n r.on.few))
      where
        tag_to : (x y a c m : ℕ) → c < 4294967296 → a < m → 4294967296 * x + y ≤ 4294967296 * a + c → x < m
        tag_to x y a c m p q s = omega arith

    -- record i + 1 is a run that stands after record i
    run_told : (i : ℕ) → front_of ≤ i → i < n → RunTold w shard_count report_view i
    run_told i h m =
        record {
          linked = ⊎_elim (λ e. subst (λ (x : ℕ). slice_index w (4 * x + 3) ≡ x + 1) (sym e) (high_at (2 * front_of + 1) (4 * front_of + 3) (omega arith) (omega (arith, front_to.1)) ∙ linked)) (λ e. high_at (2 * i + 1) (4 * i + 3) (omega arith) (omega (arith, r.on.few)) ∙ (r.on.each i (above e) m).linked) (eq_or_ne i front_of);
          fits = record {
            rises = ⊎_elim (λ e. inl (omega (arith, front_tag, run_low (i + 1) (omega arith) (omega arith), ap (λ (x : ℕ). slice_index w (4 * x)) e, tag_next)))
                (λ e. ⊎_elim (λ q. inl (omega (arith, q, tag_next))) (λ q. inr (omega (arith, q.0, tag_next), omega (arith, q.1, word_next)))
                (key_order (slice_index w (4 * i)) (slice_index w (4 * i + 1)) (slice_index w (4 * (i + 1))) (slice_index w (4 * (i + 1) + 1)) (g.words (4 * i + 1)) (g.words (4 * (i + 1) + 1))
                (omega (arith, key_next i (omega (arith, above e)) (omega arith), key_is i (omega (arith, r.on.few)), key_is (i + 1) (omega (arith, r.on.few))))))
                (eq_or_ne i front_of);
            low = omega (arith, run_low (i + 1) (omega arith) (omega arith), tag_next);
            high = omega (arith, run_high (i + 1) (omega arith) (omega arith), tag_next);
            view_from = omega (arith, (run_at (i + 1) (omega arith) (omega arith)).view_from, word_next);
            view_to = omega (arith, (run_at (i + 1) (omega arith) (omega arith)).view_to, word_next);
            some = omega (arith, (run_at (i + 1) (omega arith) (omega arith)).some_k, k_next);
          };
        }
      where
        above : (i ≢ front_of) → front_of + 1 ≤ i
        above e = ⊎_elim (λ q. absurd (e (omega arith))) (λ q. q) (lt_or_le i (front_of + 1))

        tag_next : slice_index_or w (4 * (i + 1)) 0 ≡ slice_index w (4 * i + 4)
        tag_next = ap (λ (x : ℕ). slice_index w x) (omega arith)

        word_next : slice_index_or w (4 * (i + 1) + 1) 0 ≡ slice_index w (4 * i + 5)
        word_next = ap (λ (x : ℕ). slice_index w x) (omega arith)

        k_next : slice_index_or w (4 * (i + 1) + 2) 0 ≡ slice_index w (4 * i + 6)
        k_next = ap (λ (x : ℕ). slice_index w x) (omega arith)

    runs_seen : RunsTold w front_of shard_count report_view n
    runs_seen =
        record {
          from = omega (arith, r.on.from);
          few = r.on.few;
          each = run_told;
          end = omega (arith, high_at (2 * n + 1) (4 * n + 3) (omega arith) (omega (arith, r.on.few)), r.last.end);
        }

  pub runs_told : RunsTold w front_of shard_count report_view n
  unfolding RunsAfter
  runs_told = of g.seen.rest.runs
    where
      of : RunsAfter b front_of shard_count report_view k l n → RunsTold w front_of shard_count report_view n
      of (inl e) =
          record {
            from = omega (arith, e.0);
            few = omega (arith, e.0, front_to.1);
            each = λ i h m. absurd (omega (arith, e.0));
            end = subst (λ (x : ℕ). slice_index w (4 * x + 3) ≡ 0) (sym e.0) (high_at (2 * front_of + 1) (4 * front_of + 3) (omega arith) (omega (arith, front_to.1)) ∙ e.1);
          }
      of (inr e) = runs_seen e.0 e.1

  masks_fit : MasksFit σ v w
  masks_fit =
      record {
        sound = subst (λ (x : ℕ). row10 σ x (mask_told w) ≡ true) (sym members_is) (row10_same σ v.members (mask_told w) (mask_at v) mask ∙ g.kept.masks);
        members = λ d. members_is;
        masks = λ d. mask;
      }

  ending : Ending σ w report_view front_of n g.right front_told runs_told v t view_is
  unfolding Ending
  ending = ⊎_elim (λ e. inl e) (λ e. inr (e.0, record { made = λ d. e.1.kept; positions = λ d. position_fits e.1 })) g.seen.rest.ending

  head : HeadPasses Report σ (slice_index w 0) (slice_index w 1) (slice_index w 2)
  unfolding row6 row7
  head =
      rw (node_is, view_is, members_is)
      (record {
        node_passes = lt-ltb node (nodes σ) (within_has (nodes σ) v.members g.kept.inside node g.seen.front.member);
        view_passes = and_both (and_both g.kept.view g.kept.inside) g.seen.front.member;
      })

  -- rows 5 to 11
  pub told_passes : length w ≤ 512 → length w % 4 ≡ 0 → n < records w → MessagePasses Report σ w
  told_passes h i j =
      front_passes σ w report_view front_of n g.right front_told runs_told (few_words w (omega arith) h i) j head view_is masks_fit.sound

  pub told_node : (contents_of w).node.0 ≡ node
  unfolding contents_of
  told_node = node_is

  pub told_view : (contents_of w).view.0 ≡ report_view
  unfolding contents_of
  told_view = view_is

  -- rows 12 and 13, and a termination is kept
  pub told_row12 : row12 σ v (contents_of w) ≡ true
  told_row12 = front_row12 σ w report_view front_of n g.right front_told runs_told v t view_is masks_fit

  pub told_row13 : row13 σ v t (contents_of w) ≡ true
  told_row13 = front_row13 σ w report_view front_of n g.right front_told runs_told v t view_is ending

  pub told_kept : term_kept σ v t (contents_of w) ≡ true
  told_kept = front_kept σ w report_view front_of n g.right front_told runs_told v t view_is ending

  -- the slot is sound
  pub told_sound : (d : List ℕ) → slot d node ≡ w → length w ≡ 512 → slot_ok σ v t d node ≡ true
  unfolding slot_ok report_of
  told_sound d e h =
      let pass = message_none Report σ w (told_passes (omega arith) (omega arith) (omega (arith, runs_told.few))) in
      rw e
      (and_both (and_both (and_both (and_both (and_both
      (eq-eqb _ 0 (ap (λ (x : Refusal). x.code) pass))
      (eq-eqb _ node told_node))
      (le-leb (contents_of w).view.0 report_view (omega (arith, told_view))))
      told_row12)
      told_row13)
      told_kept)

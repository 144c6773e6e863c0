-- The list that the walk leaves gives the end of each shard's log.
use Rattle.std.specs.Prelude.{◌≡◌, ℕ, zero, suc, ◌+◌, ◌-◌, ◌*◌, ◌/◌, ◌%◌, ◌<◌, ◌≤◌, cond, ◌⊎◌, List, length, replicate, ◌==◌, ◌≢◌, slice_index, slice_index_or, slice_set}
use native.Mathlib.Omega.{arith}
use Rattle.std.proofs.Math.Logic.{inl}
use Rattle.std.proofs.Common.{inr, ⊎_elim, sym, ap₂, ◌∙◌, get_or-set_same, get_or-set_other}
use Rattle.std.proofs.Math.Path.{refl, ap, subst}
use Rattle.std.proofs.Math.ListN.{length-replicate, get_or-replicate}
use borrow.Author.Tests.{eq-eqb, ne_eqb}
use Rattle.base_laws.specs.Bools.{eq_or_ne}
use Rattle.base_ids.specs.declared.Position.{Position}
use Rattle.settings_values.specs.Definitions.{shards}
use Rattle.message_format.specs.Definitions.{body_of, contents_of, tag, word1, word2}
use Rattle.report_views.specs.declared.Layout.{Layout}
use Rattle.report_views.specs.declared.Termination.{Termination}
use Rattle.report_views.specs.Definitions.{pos, start, end_of}
use Rattle.report_quick.specs.Accepts.{front_following, tag_is, word1_is, word2_is}
use Rattle.report_walk.specs.Updates.{RecordsAre}
use Rattle.report_walk.specs.Seen.{runs_noted, end_key, RunsSeen, RunsAfter, length_noted}
use Rattle.report_walk.specs.Sound.{Walked, front_of, front_told, front_tags, runs_told, run_low, run_high, low_at, high_at}

-- the end p that entry i of the list stands for: none, or that of the run at record i
EndAt : List ℕ → ℕ → Position → Type 0
EndAt w i p = ((i ≡ 0) × (p ≡ start)) ⊎ ((1 ≤ i) × (i ≤ 127) × (p ≡ pos (slice_index w (4 * i + 1)) (slice_index w (4 * i + 2))))

-- the end of shard s's log by the words and the list
unfoldable pub end_seen : List ℕ → List ℕ → ℕ → Position
end_seen w last s =
    cond (slice_index last s == 0) start (pos (slice_index w (4 * slice_index last s + 1)) (slice_index w (4 * slice_index last s + 2)))

-- what a record does to the end of shard s
end_on : (b : List ℕ) (s j : ℕ) → (tag b j ≢ 768 + s) → end_of b s (suc j) ≡ end_of b s j
unfolding end_of
end_on b s j d = rw (ne_eqb (tag b j) (768 + s) d) refl

end_new : (b : List ℕ) (s j : ℕ) → tag b j ≡ 768 + s → end_of b s (suc j) ≡ pos (word1 b j) (word2 b j)
unfolding end_of
end_new b s j e = rw (eq-eqb (tag b j) (768 + s) e) refl

end_none : (b : List ℕ) (s n : ℕ) → ((j : ℕ) → j < n → tag b j < 768) → end_of b s n ≡ start
unfolding end_of
end_none b s zero h = refl
end_none b s (suc n) h = end_on b s n (λ e. omega (arith, h n (omega arith))) ∙ end_none b s n (λ j m. h j (omega arith))

-- one run more: record j of the body, x its pair in the message
end_turn : (w body list : List ℕ) (s j x : ℕ) → s < 16 → length list ≡ 16 → j < 127
    → tag body j ≡ slice_index w (4 * j + 4) → word1 body j ≡ slice_index w (4 * j + 5) → word2 body j ≡ slice_index w (4 * j + 6)
    → 768 ≤ slice_index w (4 * j + 4) → slice_index w (4 * j + 4) < 784 → slice_index w (4 * j + 4) ≡ x % 4294967296
    → EndAt w (slice_index list s) (end_of body s j) → EndAt w (slice_index (slice_set list (x % 16) (j + 1)) s) (end_of body s (suc j))
unfolding EndAt
end_turn w body list s j x small long in-time tagged first second low high pair before =
    ⊎_elim here other (eq_or_ne s (x % 16))
  where
    here : s ≡ x % 16 → EndAt w (slice_index (slice_set list (x % 16) (j + 1)) s) (end_of body s (suc j))
    here e =
        subst (λ (i : ℕ). EndAt w i (end_of body s (suc j)))
        (sym (ap (λ (y : ℕ). slice_index (slice_set list (x % 16) (j + 1)) y) e ∙ get_or-set_same list (x % 16) (j + 1) 0 (omega arith)))
        (inr (omega arith, omega arith, end_new body s j (omega arith) ∙ ap₂ (λ (a c : ℕ). pos a c) (first ∙ ap (λ (y : ℕ). slice_index w y) (omega arith)) (second ∙ ap (λ (y : ℕ). slice_index w y) (omega arith))))

    other : (s ≢ x % 16) → EndAt w (slice_index (slice_set list (x % 16) (j + 1)) s) (end_of body s (suc j))
    other d =
        subst (λ (i : ℕ). EndAt w i (end_of body s (suc j))) (sym (get_or-set_other list (x % 16) s (j + 1) 0 d))
        (subst (λ (p : Position). EndAt w (slice_index list s) p) (sym (end_on body s j (λ e. d (omega arith)))) before)

module _ {σ : List ℕ} {v : Layout} {t : Termination} {w b masks positions k l : List ℕ} {node n : ℕ} (g : Walked σ v t w b masks positions k l node n) (blank : k ≡ replicate 16 0) (s : ℕ) (small : s < 16) where
  -- the last record before the runs
  abbrev m : ℕ
  m = front_of g

  abbrev body : List ℕ
  body = body_of w

  tag_of : (j : ℕ) → j < n → tag body j ≡ slice_index w (4 * j + 4)
  tag_of = tag_is σ w v.number.0 m n g.right (front_told g) (runs_told g)

  first_of : (j : ℕ) → j < n → word1 body j ≡ slice_index w (4 * j + 5)
  first_of = word1_is σ w v.number.0 m n g.right (front_told g) (runs_told g)

  second-of : (j : ℕ) → j < n → word2 body j ≡ slice_index w (4 * j + 6)
  second-of = word2_is σ w v.number.0 m n g.right (front_told g) (runs_told g)

  start_of : EndAt w (slice_index k s) (end_of body s m)
  unfolding EndAt
  start_of =
      inl (ap (λ (x : List ℕ). slice_index x s) blank ∙ get_or-replicate 16 s 0 0 small, end_none body s m (λ j h. omega (arith, tag_of j (omega (arith, (runs_told g).from)), front_tags g j h)))

  module _ (linked : slice_index_or b (2 * m + 1) 0 / 4294967296 ≡ m + 1) (r : RunsSeen b (m + 1) (shards σ) v.number.0 k l n) where
    -- after q runs
    ends_to : (q : ℕ) → m + q ≤ n → EndAt w (slice_index (runs_noted b k (m + 1) q) s) (end_of body s (m + q))
    unfolding runs_noted
    ends_to zero h = subst (λ (x : ℕ). EndAt w (slice_index k s) (end_of body s x)) (let e : m ≡ m + 0 = omega arith in e) start_of
    ends_to (suc q) h =
        subst (λ (x : ℕ). EndAt w (slice_index (slice_set (runs_noted b k (m + 1) q) (slice_index b (2 * (m + 1 + q)) % 16) (m + 1 + q)) s) (end_of body s x)) (let e : suc (m + q) ≡ m + suc q = omega arith in e)
        (subst (λ (x : ℕ). EndAt w (slice_index (slice_set (runs_noted b k (m + 1) q) (slice_index b (2 * (m + 1 + q)) % 16) x) s) (end_of body s (suc (m + q)))) (let e : m + q + 1 ≡ m + 1 + q = omega arith in e)
        (end_turn w body (runs_noted b k (m + 1) q) s (m + q) (slice_index b (2 * (m + 1 + q))) small (length_noted b k (m + 1) q ∙ (ap length blank ∙ length-replicate {A = ℕ} 16 0)) (omega (arith, r.on.few))
        (tag_of (m + q) (omega arith)) (first_of (m + q) (omega arith)) (second-of (m + q) (omega arith))
        (omega (arith, same, run_low g linked r (m + 1 + q) (omega arith) (omega arith)))
        (omega (arith, same, run_high g linked r (m + 1 + q) (omega arith) (omega arith), g.right.sizes.shards_to))
        (low_at g (2 * (m + 1 + q)) (4 * (m + q) + 4) (omega arith) (omega (arith, r.on.few)))
        (ends_to q (omega arith))))
      where
        same : slice_index_or w (4 * (m + q) + 4) 0 ≡ slice_index w (4 * (m + 1 + q))
        same = ap (λ (y : ℕ). slice_index w y) (omega arith)

  end-at : EndAt w (slice_index l s) (end_of body s n)
  unfolding RunsAfter
  end-at = of g.seen.rest.runs
    where
      of : RunsAfter b m (shards σ) v.number.0 k l n → EndAt w (slice_index l s) (end_of body s n)
      of (inl e) =
          subst (λ (x : List ℕ). EndAt w (slice_index x s) (end_of body s n)) (sym e.2) (subst (λ (x : ℕ). EndAt w (slice_index k s) (end_of body s x)) (sym e.0) start_of)
      of (inr e) =
          let r = e.1 in
          let d : m + suc (n - (m + 1)) ≡ n = omega (arith, r.on.from) in
          subst (λ (x : List ℕ). EndAt w (slice_index x s) (end_of body s n)) (sym r.list)
          (subst (λ (x : ℕ). EndAt w (slice_index (runs_noted b k (m + 1) (suc (n - (m + 1)))) s) (end_of body s x)) d (ends_to e.0 r (suc (n - (m + 1))) (omega (arith, r.on.from))))

  -- an entry of the list is the index of a record
  pub told_few : slice_index_or l s 0 ≤ 127
  unfolding EndAt
  told_few = of end-at
    where
      of : EndAt w (slice_index l s) (end_of body s n) → slice_index l s ≤ 127
      of (inl e) = omega (arith, e.0)
      of (inr e) = e.1

  -- the end of shard s's log
  pub told_end : end_of (contents_of w).body s (contents_of w).len ≡ end_seen w l s
  unfolding contents_of end_seen EndAt
  told_end = rw (front_following σ w v.number.0 m n g.right (front_told g) (runs_told g)) (of end-at)
    where
      of : EndAt w (slice_index l s) (end_of body s n) → end_of body s n ≡ end_seen w l s
      of (inl e) = rw (e.1, eq-eqb (slice_index l s) 0 e.0) refl
      of (inr e) = rw (e.2, ne_eqb (slice_index l s) 0 (λ d. omega (arith, e.0))) refl

  -- and as one number
  pub told_key : end_key b l s ≡ 4294967296 * (end_of (contents_of w).body s (contents_of w).len).view.0 + (end_of (contents_of w).body s (contents_of w).len).k
  unfolding end_key end_seen
  told_key = rw told_end (⊎_elim (λ e. rw (eq-eqb (slice_index l s) 0 e) refl) (λ e. rw (ne_eqb (slice_index l s) 0 e, high_at g (2 * slice_index l s) (4 * slice_index l s + 1) (omega arith) (omega (arith, told_few)), low_at g (2 * slice_index l s + 1) (4 * slice_index l s + 2) (omega arith) (omega (arith, told_few))) refl) (eq_or_ne (slice_index l s) 0))

-- the pairs have the records of the body
module _ {σ : List ℕ} {v : Layout} {t : Termination} {w b masks positions k l : List ℕ} {node n : ℕ} (g : Walked σ v t w b masks positions k l node n) where
  pub told_len : (contents_of w).len ≡ n
  unfolding contents_of
  told_len = front_following σ w v.number.0 (front_of g) n g.right (front_told g) (runs_told g)

  pub told_records : RecordsAre b (contents_of w).body n
  unfolding contents_of
  told_records =
      record {
        tags = λ j h.
            tag_is σ w v.number.0 (front_of g) n g.right (front_told g) (runs_told g) j h
            ∙ low_at g (2 * j + 2) (4 * j + 4) (omega arith) (omega (arith, (runs_told g).few));
        firsts = λ j h.
            word1_is σ w v.number.0 (front_of g) n g.right (front_told g) (runs_told g) j h
            ∙ high_at g (2 * j + 2) (4 * j + 5) (omega arith) (omega (arith, (runs_told g).few));
        seconds = λ j h.
            word2_is σ w v.number.0 (front_of g) n g.right (front_told g) (runs_told g) j h
            ∙ low_at g (2 * j + 3) (4 * j + 6) (omega arith) (omega (arith, (runs_told g).few));
      }

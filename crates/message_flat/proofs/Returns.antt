-- The contents of our report, turned into a flat report and back, are the same.
use Rattle.std.specs.Prelude.{ℕ, zero, suc, ◌+◌, ◌*◌, ◌-◌, ◌/◌, ◌%◌, ◌≤◌, ◌<◌, min, Bool, ◌&&◌, List, ◌⊎◌, ◌≡◌, ltb, length, take}
use native.Mathlib.Omega.{arith}
use Rattle.std.proofs.Math.Bool.{true, false, cond}
use Rattle.std.proofs.Common.{inl, inr, sym, ◌∙◌, subst}
use Rattle.std.proofs.Math.Logic.{⊎_elim}
use Rattle.std.proofs.Math.Path.{refl, ap, ap₂}
use Rattle.std.proofs.Math.Dec.{eqb, leb}
use Rattle.std.proofs.Math.ListN.{get_or, length-take}
use Rattle.std.proofs.Math.Seq.{get_or-take}
use borrow.Author.Tests.{eq-eqb, ne_eqb, le-ltb, leb-true, le-leb}
use Rattle.base_laws.specs.Bools.{either, and_both, and_left, and_right, not_of_false, lt_or_le, eq_or_ne}
use Rattle.base_laws.specs.Below.{all_at, any_none_of}
use Rattle.base_laws.specs.Definitions.{tabulate}
use Rattle.base_laws.specs.Tables.{length_tabulate, get_d_tabulate, tabulate_cong}
use Rattle.base_ids.specs.Definitions.{none}
use Rattle.base_ids.specs.Refusals.{unless_none}
use Rattle.settings_values.specs.Definitions.{shards}
use Rattle.message_format.specs.declared.Contents.{Contents}
use Rattle.message_format.specs.declared.Form.TheVariants.{Report}
use Rattle.message_format.specs.Definitions.{tag, word1, word2, kind, record_shard, legal, view_fits, row11_at, head_word}
use Rattle.message_format.specs.Messages.{tidy}
use Rattle.message_format.specs.Passed.{ContentsPass}
use Rattle.message_flat.specs.Definitions.{flat_shards, flat_flag, flat_places, flat_count_at, flat_runs, explained, zero_count, flat_len, flat_refusal, flat_record, flat_body, flat_contents, has_places, places_in, runs_first, runs_count, count_place, flat_length, triple_word, flat_word, flat_words}
use Rattle.message_flat.specs.Records.{few, mask_tag, mask_plain, shard_lt, place_tag, run_kind}
use Rattle.message_flat.specs.Turns.{made_head, made_shards, made_mask, made_flag, made_place, made_count, made_triple, record_mask, record_place, record_run}
use Rattle.message_flat.specs.Returns.{first_le, places_le, flat_fits}

module _ (σ : List ℕ) (c : Contents) (one : 1 ≤ shards σ) (most : shards σ ≤ 16) (pass : ContentsPass Report σ c) where
  abbrev old_body : List ℕ
  old_body = c.body

  abbrev made_flat : List ℕ
  made_flat = take (flat_length σ c) (flat_words σ c)

  made_long : length made_flat ≡ flat_length σ c
  unfolding flat_words
  made_long = length-take (flat_length σ c) (flat_words σ c) ∙ omega (arith, length_tabulate 512 (flat_word σ c), (flat_fits σ c one most pass))

  made_word : (k : ℕ) → k < flat_length σ c → get_or made_flat k 0 ≡ flat_word σ c k
  unfolding flat_words
  made_word k l = get_or-take (flat_length σ c) (flat_words σ c) k 0 l ∙ get_d_tabulate 512 (flat_word σ c) k 0 (omega (arith, (flat_fits σ c one most pass)))

  its_shards : flat_shards made_flat ≡ shards σ
  its_shards = made_word 3 (omega arith) ∙ made_shards σ c

  its_flag : flat_flag made_flat ≡ cond (has_places σ c) 1 0
  its_flag = ap (λ (x : ℕ). get_or made_flat (4 + x) 0) its_shards ∙ made_word (4 + shards σ) (omega arith) ∙ made_flag σ c

  its_places : flat_places made_flat ≡ places_in σ c
  unfolding flat_places places_in
  its_places = ap₂ (λ (x s : ℕ). cond (eqb x 1) s 0) its_flag its_shards ∙ pick (has_places σ c) (shards σ)
    where
      pick : (q : Bool) (s : ℕ) → cond (eqb (cond q 1 0) 1) s 0 ≡ cond q s 0
      pick true s = refl
      pick false s = refl

  its_first : flat_shards made_flat + flat_places made_flat ≡ runs_first σ c
  its_first = omega (arith, its_shards, its_places)

  its_count_at : flat_count_at made_flat ≡ count_place σ c
  its_count_at = omega (arith, its_shards, its_places)

  its_runs : flat_runs made_flat ≡ runs_count σ c
  its_runs = ap (λ (x : ℕ). get_or made_flat x 0) its_count_at ∙ made_word (count_place σ c) (omega arith) ∙ made_count σ c

  its_len : flat_len made_flat ≡ c.len
  its_len = omega (arith, its_shards, its_places, its_runs, (first_le σ c one most pass))

  -- word i of its triples
  its_triple : (i : ℕ) → i < 3 * runs_count σ c → get_or made_flat (flat_count_at made_flat + 1 + i) 0 ≡ triple_word old_body (runs_first σ c) i
  its_triple i l =
      ap (λ (x : ℕ). get_or made_flat (x + 1 + i) 0) its_count_at ∙ made_word (count_place σ c + 1 + i) (omega arith) ∙ made_triple σ c i l

  -- the count of a run is not 0
  run_count : (j : ℕ) → runs_first σ c ≤ j → j < c.len → 1 ≤ word2 old_body j
  unfolding row11_at legal
  run_count j l m =
      let k : kind old_body j ≡ 3 = run_kind σ c pass j l m in
      let h = all_at c.len (row11_at Report c.view.0 c.members old_body) pass.records_pass.positions-pass j m in
      let g : (leb 1 (word1 old_body j) && leb 1 (word2 old_body j) && view_fits Report c.view.0 (word1 old_body j)) ≡ true = rw k at h in
      leb-true 1 (word2 old_body j)
      (and_right (leb 1 (word1 old_body j)) (leb 1 (word2 old_body j))
      (and_left (leb 1 (word1 old_body j) && leb 1 (word2 old_body j)) (view_fits Report c.view.0 (word1 old_body j)) g))

  not_zero : (i : ℕ) → i < runs_count σ c → get_or made_flat (flat_count_at made_flat + 3 * i + 3) 0 ≡ word2 old_body (runs_first σ c + i)
  unfolding triple_word
  not_zero i l =
      let e : (3 * i + 2) % 3 ≡ 2 = omega arith in
      ap (λ (x : ℕ). get_or made_flat x 0) (omega arith) ∙ its_triple (3 * i + 2) (omega arith) ∙ rw e (ap (λ (x : ℕ). get_or old_body x 0) (omega arith))

  one_or_none : (q : Bool) → cond q 1 0 ≤ 1
  one_or_none true = omega arith
  one_or_none false = omega arith

  -- it is taken
  pub made_taken : flat_refusal made_flat ≡ none
  unfolding flat_refusal explained zero_count
  made_taken =
      let low : flat_flag made_flat ≤ 1 = omega (arith, its_flag, one_or_none (has_places σ c)) in
      let counts : (i : ℕ) → i < flat_runs made_flat → eqb (get_or made_flat (flat_count_at made_flat + 3 * i + 3) 0) 0 ≡ false =
      λ i l. ne_eqb (get_or made_flat (flat_count_at made_flat + 3 * i + 3) 0) 0 (λ z.
      omega (arith, not_zero i (omega (arith, its_runs)), run_count (runs_first σ c + i) (omega arith) (omega (arith, its_runs)))) in
      unless_none _ _ _
      (and_both (le-leb (flat_flag made_flat) 1 low)
      (eq-eqb (length made_flat) (flat_count_at made_flat + 1 + 3 * flat_runs made_flat) (omega (arith, made_long, its_count_at, its_runs))))
      (unless_none _ _ _ (not_of_false (any_none_of (flat_runs made_flat) (λ i. eqb (get_or made_flat (flat_count_at made_flat + 3 * i + 3) 0) 0) counts))
      (unless_none _ _ _ (le-leb (flat_len made_flat) 127 (omega (arith, its_len, few σ c pass))) refl))

  -- without a termination there are no positions
  no_places : has_places σ c ≡ false → places_in σ c ≡ 0
  unfolding places_in
  no_places e = rw e

  triple_shard : (i : ℕ) → i < runs_count σ c → get_or made_flat (flat_count_at made_flat + 1 + 3 * i) 0 ≡ record_shard old_body (runs_first σ c + i)
  unfolding triple_word
  triple_shard i l =
      let e : 3 * i % 3 ≡ 0 = omega arith in
      let g : 3 * i / 3 ≡ i = omega arith in
      its_triple (3 * i) (omega arith) ∙ rw (e, g)

  triple_rest : (i p : ℕ) → i < runs_count σ c → p < 3 → (p ≡ 0 → ⊥)
      → get_or made_flat (flat_count_at made_flat + 1 + (3 * i + p)) 0 ≡ get_or old_body (3 * (runs_first σ c + i) + p) 0
  unfolding triple_word
  triple_rest i p l m z =
      its_triple (3 * i + p) (omega arith) ∙ rw (ne_eqb ((3 * i + p) % 3) 0 (λ e. z (omega arith))) (ap (λ (x : ℕ). get_or old_body x 0) (omega arith))

  -- each word of each record comes back
  mask-word : (j p : ℕ) → j < shards σ → p < 3 → cond (eqb p 0) (256 + j) (cond (eqb p 1) (get_or made_flat (4 + j) 0) 0) ≡ get_or old_body (3 * j + p) 0
  mask-word j zero l m = sym (mask_tag σ c pass j l) ∙ ap (λ (x : ℕ). get_or old_body x 0) (omega arith)
  mask-word j (suc zero) l m = made_word (4 + j) (omega arith) ∙ made_mask σ c j l
  mask-word j (suc (suc zero)) l m = sym (mask_plain σ c pass j l)
  mask-word j (suc (suc (suc p))) l m = absurd (omega arith)

  its_record : (j p : ℕ) → j < c.len → p < 3 → flat_record made_flat j p ≡ get_or old_body (3 * j + p) 0
  its_record j p l m =
      ⊎_elim (λ s. record_mask made_flat j p (omega (arith, its_shards)) ∙ mask-word j p s m)
      (λ s.
      ⊎_elim (λ t. record_place made_flat j p (omega (arith, its_shards)) (omega (arith, its_shards, its_places)) ∙ place-word s t (eq_or_ne p 0))
      (λ t. record_run made_flat j p (omega (arith, its_shards, its_places)) ∙ run-word t (eq_or_ne p 0))
      (lt_or_le j (runs_first σ c)))
      (lt_or_le j (shards σ))
    where
      made : shards σ ≤ j → j < runs_first σ c → has_places σ c ≡ true
      made s t = ⊎_elim (λ e. e) (λ e. absurd (omega (arith, no_places e))) (either (has_places σ c))

      place-word : shards σ ≤ j → j < runs_first σ c → (p ≡ 0) ⊎ (p ≡ 0 → ⊥)
          → cond (eqb p 0) (512 + (j - flat_shards made_flat)) (get_or made_flat (4 + flat_shards made_flat + 2 * (j - flat_shards made_flat) + p) 0) ≡ get_or old_body (3 * j + p) 0
      place-word s t (inl z) =
          let e : shards σ + (j - shards σ) ≡ j = omega arith in
          let g : tag old_body j ≡ 512 + (j - shards σ) =
          subst (λ (x : ℕ). tag old_body x ≡ 512 + (j - shards σ)) e (place_tag σ c pass (made s t) (j - shards σ) (omega (arith, (places_le σ c one most pass)))) in
          let a : 512 + (j - flat_shards made_flat) ≡ tag old_body j = omega (arith, g, its_shards) in
          let y : 3 * j ≡ 3 * j + p = omega arith in
          rw (eq-eqb p 0 z) (a ∙ ap (λ (x : ℕ). get_or old_body x 0) y)
      place-word s t (inr z) =
          let i : ℕ = 2 * (j - shards σ) + (p - 1) in
          rw (ne_eqb p 0 z)
          (ap (λ (x : ℕ). get_or made_flat x 0) (omega (arith, its_shards))
          ∙ made_word (5 + shards σ + (2 * (j - shards σ) + (p - 1))) (omega arith)
          ∙ made_place σ c (2 * (j - shards σ) + (p - 1)) (omega arith)
          ∙ ap (λ (x : ℕ). get_or old_body x 0) (omega arith))

      run-word : runs_first σ c ≤ j → (p ≡ 0) ⊎ (p ≡ 0 → ⊥)
          → cond (eqb p 0) (768 + min (get_or made_flat (flat_count_at made_flat + 1 + 3 * (j - (flat_shards made_flat + flat_places made_flat))) 0) 255)
          (get_or made_flat (flat_count_at made_flat + 1 + 3 * (j - (flat_shards made_flat + flat_places made_flat)) + p) 0)
          ≡ get_or old_body (3 * j + p) 0
      run-word t (inl z) =
          let w : get_or made_flat (flat_count_at made_flat + 1 + 3 * (j - (flat_shards made_flat + flat_places made_flat))) 0 ≡ record_shard old_body j =
          ap (λ (x : ℕ). get_or made_flat (flat_count_at made_flat + 1 + 3 * (j - x)) 0) its_first
          ∙ triple_shard (j - runs_first σ c) (omega arith)
          ∙ ap (λ (x : ℕ). record_shard old_body x) (omega arith) in
          let k : kind old_body j ≡ 3 = run_kind σ c pass j t l in
          let s : record_shard old_body j < shards σ = shard_lt σ c pass j l in
          let a : 768 + min (get_or made_flat (flat_count_at made_flat + 1 + 3 * (j - (flat_shards made_flat + flat_places made_flat))) 0) 255 ≡ tag old_body j =
          omega (arith, w, k, s) in
          let y : 3 * j ≡ 3 * j + p = omega arith in
          rw (eq-eqb p 0 z) (a ∙ ap (λ (x : ℕ). get_or old_body x 0) y)
      run-word t (inr z) =
          let joined : flat_count_at made_flat + 1 + 3 * (j - runs_first σ c) + p ≡ flat_count_at made_flat + 1 + (3 * (j - runs_first σ c) + p) = omega arith in
          rw (ne_eqb p 0 z)
          (ap (λ (x : ℕ). get_or made_flat (flat_count_at made_flat + 1 + 3 * (j - x) + p) 0) its_first
          ∙ ap (λ (x : ℕ). get_or made_flat x 0) joined
          ∙ triple_rest (j - runs_first σ c) p (omega arith) m z
          ∙ ap (λ (x : ℕ). get_or old_body x 0) (omega arith))

  -- the contents come back
  pub contents_back : tidy c ≡ c → flat_contents made_flat ≡ c
  unfolding flat_contents flat_body tidy head_word
  contents_back tidied =
      let n : get_or made_flat 0 0 ≡ c.node.0 = made_word 0 (omega arith) ∙ made_head σ c 0 (omega arith) in
      let v : get_or made_flat 1 0 ≡ c.view.0 = made_word 1 (omega arith) ∙ made_head σ c 1 (omega arith) in
      let m : get_or made_flat 2 0 ≡ c.members = made_word 2 (omega arith) ∙ made_head σ c 2 (omega arith) in
      let bodies : flat_body made_flat ≡ tabulate 381 (λ k. cond (ltb k (3 * c.len)) (get_or c.body k 0) 0) =
      tabulate_cong 381 (λ k. cond (ltb k (3 * flat_len made_flat)) (flat_record made_flat (k / 3) (k % 3)) 0) (λ k. cond (ltb k (3 * c.len)) (get_or c.body k 0) 0)
      (λ k l. ap (λ (x : ℕ). cond (ltb k (3 * x)) (flat_record made_flat (k / 3) (k % 3)) 0) its_len ∙ one_word k (lt_or_le k (3 * c.len))) in
      let len = its_len in
      (λ i. record { node = record { 0 = n i }; view = record { 0 = v i }; members = m i; len = len i; body = bodies i }) ∙ tidied
    where
      one_word : (k : ℕ) → (k < 3 * c.len) ⊎ (3 * c.len ≤ k)
          → cond (ltb k (3 * c.len)) (flat_record made_flat (k / 3) (k % 3)) 0 ≡ cond (ltb k (3 * c.len)) (get_or c.body k 0) 0
      one_word k (inl l) =
          ap (λ (x : ℕ). cond (ltb k (3 * c.len)) x 0)
          (its_record (k / 3) (k % 3) (omega arith) (omega arith) ∙ ap (λ (x : ℕ). get_or c.body x 0) (omega arith))
      one_word k (inr l) = rw (le-ltb k (3 * c.len) l)

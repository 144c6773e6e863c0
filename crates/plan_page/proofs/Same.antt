-- Worlds that are alike for subgroup g have one page of it.
use Rattle.std.specs.Prelude.{ℕ, ◌^◌, ◌<◌, Bool, true, ◌&&◌, List, ◌⊎◌, ◌≡◌, refl, eqb, length}
use Rattle.std.proofs.Math.Bool.{false, cond, not}
use Rattle.std.proofs.Common.{inl, inr, ap, ◌∙◌, ext_get_or}
use Rattle.std.proofs.Math.Logic.{⊎_elim}
use Rattle.std.proofs.Math.Path.{sym, ap₂}
use Rattle.base_laws.specs.Bools.{either}
use Rattle.base_laws.specs.Tables.{tabulate_cong}
use Rattle.base_ids.specs.declared.Node.{Node}
use Rattle.base_ids.specs.declared.View.{View}
use Rattle.settings_values.specs.Definitions.{nodes, Settings}
use Rattle.place_groups.specs.Definitions.{group_moves, of_group}
use Rattle.place_laws.specs.Definitions.{masks_of}
use Rattle.place_layout.specs.declared.Offer.{Offer}
use Rattle.place_layout.specs.Definitions.{PlacedAlone}
use Rattle.place_laws.specs.Local.{moves_local}
use Rattle.report_views.specs.declared.Layout.{Layout}
use Rattle.report_views.specs.declared.Termination.{Termination}
use Rattle.report_views.specs.declared.Plan.{Plan}
use Rattle.report_views.specs.declared.Phase.{Phase}
use Rattle.report_views.specs.declared.Phase.TheVariants.{Gathering, Ordered, Preparing, Committed}
use Rattle.report_views.specs.Definitions.{mask_at, target, holder}
use Rattle.plan_page.specs.Holders.{AlikeShard}
use Rattle.plan_page.proofs.Holders.{target_alike, holder_alike}
use Rattle.plan_page.specs.Choices.{turned}
use Rattle.plan_page.proofs.Choices.{valid_alike, moves_alike, choices_alike}
use Rattle.plan_page.specs.declared.Page.{Page}
use Rattle.plan_page.specs.Definitions.{shown, holder_shown, target_shown, mask_shown, Repeats, PlacedAs, PageOf}
use Rattle.plan_page.specs.Turns.{mask_cong}
use Rattle.plan_page.specs.Same.{AgreeOn}

module _ {g : ℕ} {σ τ : List ℕ} {v w : Layout} {t u : Termination} {held : ℕ} {d e : List ℕ} {pl ql : Plan}
    (right : Settings σ) (right' : Settings τ) (inside : held < 2 ^ nodes τ) (long : length d ≡ 16384) (wide : length e ≡ 16384)
    (k : AgreeOn g σ τ v w t u held d e pl ql) where
  shard_alike : (s : ℕ) → of_group σ g s ≡ true → AlikeShard v w t u held d e s
  shard_alike s o =
      record {
        number = k.number;
        mask = k.masks s o;
        made = k.made;
        position = k.positions s o;
        views = k.views;
        runs = k.runs s o;
      }

  ours : (s : ℕ) → of_group σ g s ≡ of_group τ g s
  ours s = k.settings.shards_same s

  shown_same : (s : ℕ) → shown σ g (holder v t held d) s ≡ shown τ g (holder w u held e) s
  unfolding shown
  shown_same s =
      ⊎_elim
      (λ o. ap₂ (λ (b : Bool) (n : ℕ). b && not (eqb n 32)) (ours s) (holder_alike (shard_alike s o) long wide))
      (λ o. let z : of_group τ g s ≡ false = sym (ours s) ∙ o in rw (o, z))
      (either (of_group σ g s))

  holder_same : (s : ℕ) → holder_shown σ g (holder v t held d) s ≡ holder_shown τ g (holder w u held e) s
  unfolding holder_shown shown
  holder_same s =
      ⊎_elim
      (λ o.
      ap₂ {C = Node} (λ (b : Bool) (n : ℕ). record { 0 = cond (b && not (eqb n 32)) n 0 }) (ours s) (holder_alike (shard_alike s o) long wide))
      (λ o. let z : of_group τ g s ≡ false = sym (ours s) ∙ o in rw (o, z))
      (either (of_group σ g s))

  target_same : (s : ℕ) → target_shown σ g (holder v t held d) (target v t held d) s ≡ target_shown τ g (holder w u held e) (target w u held e) s
  unfolding target_shown shown
  target_same s =
      ⊎_elim
      (λ o. rw (ours s, holder_alike (shard_alike s o) long wide, target_alike (shard_alike s o) long wide))
      (λ o. let z : of_group τ g s ≡ false = sym (ours s) ∙ o in rw (o, z))
      (either (of_group σ g s))

  abbrev page_offer : Page → Offer
  page_offer p = record { found = p.found; masks = p.masks; moves = p.moves }

  -- one placement
  record SamePlacement (p q : Offer) : Type 0 where
    found : p.found ≡ q.found
    masks : p.masks ≡ q.masks
    moves : p.moves ≡ q.moves

  module _ {p q : Offer} where
    offers_same : PlacedAlone σ held (mask_at v) g p → PlacedAlone τ held (mask_at w) g q → SamePlacement p q
    offers_same a b = go (either p.found) (either q.found)
      where
        go : (p.found ≡ true) ⊎ (p.found ≡ false) → (q.found ≡ true) ⊎ (q.found ≡ false) → SamePlacement p q
        go (inl x) (inl y) =
            let same : p.masks ≡ q.masks = ext_get_or 0 p.masks q.masks (a.sized ∙ sym b.sized) (λ s l. at s (either (of_group τ g s))) in
            record {
              found = x ∙ sym y;
              masks = same;
              moves =
                  a.counted x ∙ moves_alike right.sizes.shards_to right'.sizes.shards_to k.settings k.masks (masks_of p.masks)
                  ∙ ap (λ (m : List ℕ). group_moves τ (mask_at w) (masks_of m) g) same ∙ sym (b.counted y);
            }
          where
            at : (s : ℕ) → (of_group τ g s ≡ true) ⊎ (of_group τ g s ≡ false) → masks_of p.masks s ≡ masks_of q.masks s
            at s (inl o) = choices_alike right right' inside k.settings k.masks (a.chosen x) (b.chosen y) s o
            at s (inr o) = a.others s (ours s ∙ o) ∙ sym (b.others s o)
        go (inl x) (inr y) =
            absurd ((b.none y).none (masks_of p.masks)
            (valid_alike right.sizes.shards_to right'.sizes.shards_to k.settings held (masks_of p.masks) (a.chosen x).least.valid))
        go (inr x) (inl y) =
            absurd ((a.none x).none (masks_of q.masks)
            (valid_alike right'.sizes.shards_to right.sizes.shards_to (turned k.settings) held (masks_of q.masks) (b.chosen y).least.valid))
        go (inr x) (inr y) =
            record { found = x ∙ sym y; masks = a.blank x ∙ sym (b.blank y); moves = a.still x ∙ sym (b.still y) }

    repeats_same : Repeats σ v pl.layout g p → Repeats τ w ql.layout g q → SamePlacement p q
    unfolding mask_shown
    repeats_same a b =
        record {
          found = a.found ∙ sym b.found;
          masks =
              a.masks
              ∙ tabulate_cong 16 (mask_shown σ g (mask_at pl.layout)) (mask_shown τ g (mask_at ql.layout))
              (λ s l. at s (either (of_group σ g s)))
              ∙ sym b.masks;
          moves =
              a.counted ∙ moves_local (record { at = k.plan }) (mask_at v)
              ∙ moves_alike right.sizes.shards_to right'.sizes.shards_to k.settings k.masks (mask_at ql.layout)
              ∙ sym b.counted;
        }
      where
        at : (s : ℕ) → (of_group σ g s ≡ true) ⊎ (of_group σ g s ≡ false)
            → mask_shown σ g (mask_at pl.layout) s ≡ mask_shown τ g (mask_at ql.layout) s
        at s (inl o) = ap₂ (λ (b : Bool) (m : ℕ). cond b m 0) (ours s) (k.plan s o)
        at s (inr o) = let z : of_group τ g s ≡ false = sym (ours s) ∙ o in rw (o, z)

    placed_same : (at : Phase) → PlacedAs at σ v held pl g p → PlacedAs at τ w held ql g q → SamePlacement p q
    placed_same Gathering a b = offers_same a b
    placed_same Ordered a b = repeats_same a b
    placed_same Preparing a b = repeats_same a b
    placed_same Committed a b = repeats_same a b

  module _ {p q : Page} where
    -- the two pages are one
    pub same_page : (at : Phase) → PageOf σ at v t held d pl g p → PageOf τ at w u held e ql g q → p ≡ q
    same_page at a b =
        let z = placed_same {p = page_offer p} {q = page_offer q} at a.placement b.placement in
        let one : p.phase ≡ q.phase = a.phase ∙ sym b.phase in
        let two : p.view ≡ q.view = a.view ∙ ap {B = View} (λ (n : ℕ). record { 0 = n }) k.number ∙ sym b.view in
        let three : p.shards ≡ q.shards = a.shards ∙ mask_cong 16 (of_group σ g) (of_group τ g) (λ s l. ours s) ∙ sym b.shards in
        let four : p.known ≡ q.known = a.known ∙ mask_cong 16 (shown σ g (holder v t held d)) (shown τ g (holder w u held e)) (λ s l. shown_same s) ∙ sym b.known in
        let five : p.holders ≡ q.holders =
        a.holders ∙ tabulate_cong 16 (holder_shown σ g (holder v t held d)) (holder_shown τ g (holder w u held e)) (λ s l. holder_same s) ∙ sym b.holders in
        let six : p.targets ≡ q.targets =
        a.targets ∙ tabulate_cong 16 (target_shown σ g (holder v t held d) (target v t held d)) (target_shown τ g (holder w u held e) (target w u held e)) (λ s l. target_same s) ∙ sym b.targets in
        let seven = z.found in
        let eight = z.masks in
        let nine = z.moves in
        λ i.
        record {
          phase = one i;
          view = two i;
          shards = three i;
          known = four i;
          holders = five i;
          targets = six i;
          found = seven i;
          masks = eight i;
          moves = nine i;
        }

-- so a world has one page of each subgroup
pub one_page : (σ : List ℕ) (v : Layout) (t : Termination) (held : ℕ) (d : List ℕ) (pl : Plan) → Settings σ → held < 2 ^ nodes σ → length d ≡ 16384
    → {g : ℕ} {p q : Page} (at : Phase) → PageOf σ at v t held d pl g p → PageOf σ at v t held d pl g q → p ≡ q
one_page σ v t held d pl right inside long {g} at a b =
    same_page right right inside long long
    (record {
      settings =
          record { nodes_same = refl; sets_same = λ n l. refl; shards_same = λ s. refl; needs_same = λ s o. refl; caps_same = λ s o. refl };
      number = refl;
      views = λ n l h. refl;
      made = refl;
      masks = λ s o. refl;
      positions = λ s o. refl;
      runs = λ s o n l h. refl;
      plan = λ s o. refl;
    }) at a b

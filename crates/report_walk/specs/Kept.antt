-- What is made once of the kept view and its termination, for the walk over slots and messages.
use Rattle.std.specs.Prelude.{◌≡◌, ℕ, Bool, true, false, not, ◌&&◌, ◌||◌, List, refl}
use Rattle.std.proofs.Common.{ap, ◌∙◌, leb-true}
use Rattle.base_laws.specs.Definitions.{all_below, within}
use Rattle.base_laws.specs.Below.{all_at}
use Rattle.base_laws.specs.Bools.{and_left, and_right, clash}
use Rattle.settings_values.specs.Definitions.{nodes, shards}
use Rattle.message_format.specs.declared.Form.TheVariants.{Report}
use Rattle.message_format.specs.Definitions.{view_ok, row10, is_position}
use Rattle.report_views.specs.declared.Layout.{Layout}
use Rattle.report_views.specs.declared.Termination.{Termination}
use Rattle.report_views.specs.Definitions.{mask_at, position_at, position_sound}
use Rattle.report_walk.specs.declared.Tables.{Tables}
use Rattle.report_walk.specs.Seen.{MaskRecords, PositionRecords, KeptReady}

-- the kept view and termination pass rows 7, 10 and 11, whatever the node
unfoldable pub ready_of : List ℕ → Layout → Termination → Bool
ready_of σ v t =
    view_ok Report v.number.0 && within (nodes σ) v.members && row10 σ v.members (mask_at v)
    && (not t.made || all_below (shards σ) (λ s. position_sound v.number.0 (position_at t s)))

pub record TablesOf (σ : List ℕ) (v : Layout) (t : Termination) (x : Tables) : Type 0 where
  pub ready : x.frame.ready ≡ ready_of σ v t
  pub number : x.frame.number ≡ v.number
  pub members : x.frame.members ≡ v.members
  pub made : x.frame.made ≡ t.made
  pub count : x.frame.count ≡ shards σ
  pub masks : MaskRecords v.masks x.masks
  pub positions : PositionRecords t.positions (shards σ) x.positions

pub ready_means : (σ : List ℕ) (v : Layout) (t : Termination) → ready_of σ v t ≡ true → KeptReady σ v t
unfolding ready_of position_sound
ready_means σ v t h =
    record {
      view = and_left a b (and_left (a && b) c front);
      inside = and_right a b (and_left (a && b) c front);
      masks = and_right (a && b) c front;
      positions = λ m s l.
          let p = all_at (shards σ) f (made_then t.made (all_below (shards σ) f) m (and_right (a && b && c) e h)) s l in
          record {
            placed = and_left (is_position (position_at t s).view.0 (position_at t s).k) _ p;
            view_to = leb-true (position_at t s).view.0 v.number.0 (and_right (is_position (position_at t s).view.0 (position_at t s).k) _ p);
          };
    }
  where
    a : Bool
    a = view_ok Report v.number.0

    b : Bool
    b = within (nodes σ) v.members

    c : Bool
    c = row10 σ v.members (mask_at v)

    f : ℕ → Bool
    f s = position_sound v.number.0 (position_at t s)

    e : Bool
    e = not t.made || all_below (shards σ) f

    front : (a && b && c) ≡ true
    front = and_left (a && b && c) e h

    made_then : (x y : Bool) → x ≡ true → (not x || y) ≡ true → y ≡ true
    made_then true y m q = q
    made_then false y m q = clash m refl

-- where the other rows pass, the positions decide
pub ready_by : (σ : List ℕ) (v : Layout) (t : Termination) → view_ok Report v.number.0 ≡ true → within (nodes σ) v.members ≡ true
    → row10 σ v.members (mask_at v) ≡ true → t.made ≡ true → (count : ℕ) → count ≡ shards σ → (r : Bool)
    → r ≡ all_below count (λ s. position_sound v.number.0 (position_at t s)) → r ≡ ready_of σ v t
unfolding ready_of
ready_by σ v t a b c m count e r h =
    h ∙ ap (λ (x : ℕ). all_below x (λ s. position_sound v.number.0 (position_at t s))) e ∙ rw (a, b, c, m)

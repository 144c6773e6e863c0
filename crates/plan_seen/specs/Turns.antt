-- The walk over the desk, node by node: what holds after the nodes below n.
use Rattle.std.specs.Prelude.{ℕ, ◌+◌, ◌<◌, ◌≤◌, Bool, true, false, List, ◌≡◌, length, replicate}
use Rattle.std.proofs.Common.{sym, ap, ◌∙◌, arith}
use Rattle.std.proofs.Math.Path.{subst⁻¹}
use Rattle.std.proofs.lemmas.List.{length-replicate}
use Rattle.base_laws.specs.Definitions.{all_below, has}
use Rattle.base_laws.specs.Below.{all_none}
use Rattle.base_laws.proofs.Below.{all_more}
use Rattle.base_laws.specs.Tables.{length_tabulate}
use Rattle.settings_values.specs.Definitions.{shards, Settings}
use Rattle.report_views.specs.declared.Layout.{Layout}
use Rattle.report_views.specs.declared.Termination.{Termination}
use Rattle.report_desk.specs.SlotsOf.{node_ok, unheld_ok, held_ok}
use Rattle.report_walk.specs.Pairs.{FitWords, pair_of, pairs_of}
use Rattle.plan_seen.specs.Fold.{SoFar, Stepped, so_far_none, so_far_unheld, so_far_held}

pub pairs_long : (b w : List ℕ) → b ≡ pairs_of w → length b ≡ 256
unfolding pairs_of
pairs_long b w e = ap (λ (x : List ℕ). length x) e ∙ length_tabulate 256 (pair_of w)

-- the lists have their lengths, the slots of the held nodes below n are sound, and the lists are their bests
pub record WalkedTo (σ : List ℕ) (v : Layout) (t : Termination) (held : ℕ) (d : List ℕ) (n : ℕ) (b hs ts : List ℕ) : Type 0 where
  pub upto : n ≤ 32
  pub pairs : length b ≡ 256
  pub lists : (length hs ≡ 16) × (length ts ≡ 16)
  pub sound : all_below n (node_ok σ v t held d) ≡ true
  pub far : SoFar v t held d (shards σ) n hs ts

module _ (σ : List ℕ) (v : Layout) (t : Termination) (held : ℕ) (d : List ℕ) where
  pub walked_none : Settings σ → length d ≡ 16384 → (b hs ts : List ℕ) → length b ≡ 256 → hs ≡ replicate 16 32 → ts ≡ replicate 16 0
      → WalkedTo σ v t held d 0 b hs ts
  walked_none right whole b hs ts long e f =
      subst⁻¹ (λ (x : List ℕ). WalkedTo σ v t held d 0 b x ts) e
      (subst⁻¹ (λ (x : List ℕ). WalkedTo σ v t held d 0 b (replicate 16 32) x) f
      (record {
        upto = omega arith;
        pairs = long;
        lists = (length-replicate {A = ℕ} 16 32, length-replicate {A = ℕ} 16 0);
        sound = all_none (node_ok σ v t held d);
        far = so_far_none v t held d whole (shards σ) right.sizes.shards_to;
      }))

  pub walked_unheld : length d ≡ 16384 → (n : ℕ) (b hs ts : List ℕ) → n < 32 → has held n ≡ false → WalkedTo σ v t held d n b hs ts
      → WalkedTo σ v t held d (n + 1) b hs ts
  walked_unheld whole n b hs ts l h w =
      record {
        upto = omega arith;
        pairs = w.pairs;
        lists = w.lists;
        sound = all_more n (node_ok σ v t held d) w.sound (unheld_ok σ v t held d n h);
        far = so_far_unheld v t held d whole (shards σ) n hs ts l h w.far;
      }

  pub walked_held : length d ≡ 16384 → FitWords d → (n : ℕ) (b hs ts : List ℕ) → n < 32 → has held n ≡ true → WalkedTo σ v t held d n b hs ts
      → (r : Bool) → r ≡ true → (b2 hs2 ts2 : List ℕ) → length b2 ≡ 256 → (length hs2 ≡ 16) × (length ts2 ≡ 16) → Stepped σ v t d n r hs ts hs2 ts2
      → WalkedTo σ v t held d (n + 1) b2 hs2 ts2
  walked_held whole words n b hs ts l h w r good b2 hs2 ts2 long lists s =
      record {
        upto = omega arith;
        pairs = long;
        lists = lists;
        sound = all_more n (node_ok σ v t held d) w.sound (held_ok σ v t held d n true h (sym s.sound ∙ good));
        far = so_far_held v t held d whole (shards σ) words n hs ts hs2 ts2 l h (s.renewed good) w.far;
      }

  pub walked_as : (n : ℕ) {b hs ts b2 hs2 ts2 : List ℕ} → hs2 ≡ hs → ts2 ≡ ts → b2 ≡ b → WalkedTo σ v t held d n b hs ts
      → WalkedTo σ v t held d n b2 hs2 ts2
  walked_as n {b} {hs} {ts} {b2} {hs2} {ts2} p q r w =
      subst⁻¹ (λ (x : List ℕ). WalkedTo σ v t held d n b2 x ts2) p
      (subst⁻¹ (λ (x : List ℕ). WalkedTo σ v t held d n b2 hs x) q (subst⁻¹ (λ (x : List ℕ). WalkedTo σ v t held d n x hs ts) r w))

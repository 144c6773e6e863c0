-- Lists of messages: which message is among them, and which node has sent one.
use Rattle.std.specs.Prelude.{ℕ, List, [], ◌∷◌, ◌⊎◌, ◌≡◌, refl}
use Rattle.std.proofs.Common.{inl, inr, ⊎_elim, sym, ap, ◌∙◌}
use Rattle.base_laws.specs.Bools.{eq_or_ne}
use Rattle.state_arrival_laws.specs.Arrivals as arrivals
use Rattle.state_arrival_laws.specs.Arrivals.{sender, OneOf, Distinct, SameMessages}

-- no message is among none
pub not_none : (w : List ℕ) → OneOf w [] → ⊥
not_none w = elim [ ]

-- a message of a longer list
pub head_or : (w u : List ℕ) (ws : List (List ℕ)) → OneOf w (u ∷ ws) → (w ≡ u) ⊎ OneOf w ws
head_or w u ws (arrivals.first _) = inl refl
head_or w u ws (arrivals.later _ _ a) = inr a

-- the same two ways round
pub same_back : {ws us : List (List ℕ)} → SameMessages ws us → SameMessages us ws
same_back s = record { forth = s.back; back = s.forth }

-- node n sent none of them
abbrev pub Unsent : ℕ → List (List ℕ) → Type 0
Unsent n ws = (w : List ℕ) → OneOf w ws → sender w ≡ n → ⊥

-- it sent one of them
pub record SentBy (n : ℕ) (ws : List (List ℕ)) : Type 0 where
  pub message : List ℕ
  pub among : OneOf message ws
  pub by : sender message ≡ n

pub sent_or : (n : ℕ) (ws : List (List ℕ)) → SentBy n ws ⊎ Unsent n ws
sent_or n [] = inr (λ w a. absurd (not_none w a))
sent_or n (u ∷ ws) =
    ⊎_elim (λ e. inl (record { message = u; among = arrivals.first ws; by = e }))
    (λ free.
    ⊎_elim (λ s. inl (record { message = s.message; among = arrivals.later u ws s.among; by = s.by }))
    (λ none. inr (λ w a e. ⊎_elim (λ q. free (sym (ap sender q) ∙ e)) (λ b. none w b e) (head_or w u ws a)))
    (sent_or n ws))
    (eq_or_ne (sender u) n)

-- messages of one node are one message
abbrev pub OneEach : List (List ℕ) → Type 0
OneEach ws = (w u : List ℕ) → OneOf w ws → OneOf u ws → sender w ≡ sender u → w ≡ u

pub distinct_one : {ws : List (List ℕ)} → Distinct ws → OneEach ws
distinct_one arrivals.nobody w u a b e = absurd (not_none w a)
distinct_one (arrivals.another v ws free more) w u a b e =
    ⊎_elim
    (λ p.
    ⊎_elim (λ q. p ∙ sym q) (λ k. absurd (free u k (sym e ∙ ap sender p))) (head_or u v ws b))
    (λ l.
    ⊎_elim (λ q. absurd (free w l (e ∙ ap sender q))) (λ k. distinct_one more w u l k e) (head_or u v ws b))
    (head_or w v ws a)

pub one_same : {ws us : List (List ℕ)} → SameMessages ws us → OneEach ws → OneEach us
one_same s one w u a b e = one w u (s.back w a) (s.back u b) e

-- A row for each clause of a page's words: with the clause left out or turned round the row would be false.
use Rattle.std.specs.Prelude.{ℕ, ◌+◌, Bool, true, false, ◌≡◌, refl, length, get_or}
use Rattle.base_laws.specs.Definitions.{tabulate}
use Rattle.report_views.specs.declared.Phase.{Phase}
use Rattle.report_views.specs.declared.Phase.TheVariants.{Gathering, Ordered, Preparing, Committed}
use Rattle.report_views.specs.Definitions.{pos}
use Rattle.plan_page.specs.declared.Page.{Page}
use Rattle.c_state_words.specs.Definitions.{page_head, page_word, page_words}

-- a page whose parts all differ
abbrev sample_page : Phase → Bool → Page
sample_page at found =
    record {
      phase = at;
      view = record { 0 = 7 };
      shards = 11;
      known = 12;
      holders = tabulate 16 (λ s. record { 0 = 100 + s });
      targets = tabulate 16 (λ s. pos (200 + s) (300 + s));
      found = found;
      masks = tabulate 16 (λ s. 400 + s);
      moves = 13;
    }

-- word k of it
abbrev sample_word : ℕ → ℕ
sample_word k = get_or (page_words (sample_page Preparing true)) k 0

pub record PageRows : Type 0 where
  pub count : length (page_words (sample_page Gathering true)) ≡ 512
  pub gathering : page_word (sample_page Gathering true) 0 ≡ 0
  pub ordered : page_word (sample_page Ordered true) 0 ≡ 1
  pub preparing : sample_word 0 ≡ 2
  pub committed : page_word (sample_page Committed true) 0 ≡ 3
  pub view : sample_word 1 ≡ 7
  pub shards : sample_word 2 ≡ 11
  pub known : sample_word 3 ≡ 12
  pub found : sample_word 4 ≡ 1
  pub not_found : page_word (sample_page Gathering false) 4 ≡ 0
  pub moves : sample_word 5 ≡ 13
  pub sixth : sample_word 6 ≡ 0
  pub seventh : sample_word 7 ≡ 0
  pub first_holder : sample_word 8 ≡ 100
  pub last_holder : sample_word 23 ≡ 115
  pub first-view : sample_word 24 ≡ 200
  pub first_k : sample_word 25 ≡ 300
  pub last-view : sample_word 54 ≡ 215
  pub last_k : sample_word 55 ≡ 315
  pub first_mask : sample_word 56 ≡ 400
  pub last_mask : sample_word 71 ≡ 415
  pub after : sample_word 72 ≡ 0
  pub last : sample_word 511 ≡ 0

pub page_rows : PageRows
unfolding page_head page_word page_words tabulate
page_rows =
    record {
      count = refl;
      gathering = refl;
      ordered = refl;
      preparing = refl;
      committed = refl;
      view = refl;
      shards = refl;
      known = refl;
      found = refl;
      not_found = refl;
      moves = refl;
      sixth = refl;
      seventh = refl;
      first_holder = refl;
      last_holder = refl;
      first-view = refl;
      first_k = refl;
      last-view = refl;
      last_k = refl;
      first_mask = refl;
      last_mask = refl;
      after = refl;
      last = refl;
    }

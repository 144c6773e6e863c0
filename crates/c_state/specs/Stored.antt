-- What a call stores is what the next one reads, and a state has only these bytes.
use Rattle.std.specs.Prelude.{◌≡◌, true, List, ℕ, ◌^◌, ◌<◌, length, get_or}
use Rattle.std.proofs.Common.{sym, ap, ◌∙◌}
use Rattle.base_bytes.specs.Definitions.{bytes_of}
use Rattle.base_bytes.specs.Words.{length_bytes, words_bytes, bytes_words}
use Rattle.base_lent.specs.Definitions.{words_in}
use Rattle.base_lent.specs.Lent.{bytes_of_words, all_words}
use Rattle.state_planner.specs.declared.State.{State}
use Rattle.c_state_words.specs.Definitions.{state_words, is_state}
use Rattle.c_state_words.specs.StateWords.{decoded}
use Rattle.c_state_words.specs.Laws.{stated}
use Rattle.c_state_words.specs.Inverse.{SizedState, decode_encode, encode_decode}
use Rattle.c_state.specs.Definitions.{state_lent}

-- the bytes of a state say that state
pub stored_read : (x : State) → SizedState x → ((k : ℕ) → get_or (state_words x) k 0 < 2 ^ 32)
    → decoded (words_in (bytes_of (state_words x))) ≡ record { ok = true; state = x }
stored_read x s h =
    ap decoded
    (sym (all_words (bytes_of (state_words x)) (length (state_words x)) (length_bytes (state_words x))) ∙ words_bytes (state_words x) h)
    ∙ decode_encode x s

-- bytes that are a state are the bytes of that state: to store it again changes nothing
pub stored-again : (b : List ℕ) → is_state (words_in b) ≡ true → ((k : ℕ) → get_or b k 0 < 256) → bytes_of (state_words (state_lent b)) ≡ b
unfolding state_lent
stored-again b h bound =
    let long : length b ≡ 640 = bytes_of_words b 159 (stated (words_in b) h).long in
    ap bytes_of (encode_decode (words_in b) h ∙ sym (all_words b 160 long)) ∙ bytes_words b 160 long bound

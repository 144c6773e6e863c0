-- Each way out is a case of what is answered and written.
use Rattle.std.proofs.lemmas.Result.{err_from_is_err_and}
use Rattle.c_messages.specs.Turning.{back_not_512, back_refused, back_settings, back_few, back_written}
use Rattle.c_messages.proofs.flat.turn_back.Goals as goal

pub returns-then-words-ne512 : goal.returns-then-words-ne512
returns-then-words-ne512 c =
    let t = back_not_512 c.args.settings.now c.args.message.now c.args.words.now c.if-words-ne512.true in
    record { answer = t.0; words = t.1 }

pub returns-in_err-c : goal.returns-in_err-c
returns-in_err-c c =
    let p = err_from_is_err_and c.from_residual.result c.from_residual.ensures.1 in
    let t = back_refused c.args.settings.now c.args.message.now c.args.words.now c.if-words-ne512.false _ c.in_err-c.ensures in
    record { answer = rw (p.1, p.2) t.0; words = t.1 }

pub write-requires : goal.write-requires
write-requires c =
    let long = c.if-words-ne512.false in
    let b = c.args.words.now in
    record { settings = back_settings _ _ b long _ c.in_ok-c.ensures; len_bound = back_few _ _ b long _ c.in_ok-c.ensures; words_len = long }

pub returns : goal.returns
returns c =
    let given = c.write.ensures in
    let t = back_written c.args.settings.now c.args.message.now c.args.words.now c.if-words-ne512.false _ c.in_ok-c.ensures _ _ given.answer given.words in
    record { answer = t.0; words = t.1 }

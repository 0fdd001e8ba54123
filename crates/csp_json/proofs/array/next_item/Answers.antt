use Rattle.std.proofs.Common.{◌≡◌, ◌∙◌, ◌<◌, [], ◌∷◌, length, Some, None, sym, ap, arith, rules}
use Rattle.json.specs.Json.{after_end_array, value}
use Rattle.json.specs.Reads.{token_of}
use Rattle.serde_json.specs.Read.{converted, of_json}
use Rattle.csp_json.specs.Arrays.{items_left}
use Rattle.csp_json.specs.View.{view}
use Rattle.csp_json.proofs.Items.{next_left, last_left, more_after, bad_item}
use Rattle.csp_json.proofs.array.next_item.Goals as goal

pub returns-in-None-clause-item : goal.returns-in-None-clause-item
returns-in-None-clause-item c =
    last_left c.args.reader.now (c.if-take_end_array.ensures ∙ ap Some c.in-None.ensures.value.0)

pub returns-in-Some-clause-not_json : goal.returns-in-Some-clause-not_json
returns-in-Some-clause-not_json c = λ refused.
    more_after c.args.reader.now (token_of c.in-Some.field-0) c.next.new.self
    (c.if-take_end_array.ensures ∙ ap Some c.in-Some.ensures.value)

pub returns-in_err-item-clause-not_json : goal.returns-in_err-item-clause-not_json
returns-in_err-item-clause-not_json c = λ refused.
    let going : after_end_array c.args.reader.now ≡ None = c.if-take_end_array.ensures.0 in
    let same : c.take_end_array.new.self ≡ c.args.reader.now = c.if-take_end_array.ensures.1 in
    bad_item c.args.reader.now going (ap (λ ts. converted of_json (value 126 ts)) (sym same)
    ∙ c.read.ensures.not_json (grind arith))

pub returns-clause-item : goal.returns-clause-item
returns-clause-item c =
    let going : after_end_array c.args.reader.now ≡ None = c.if-take_end_array.ensures.0 in
    let same : c.take_end_array.new.self ≡ c.args.reader.now = c.if-take_end_array.ensures.1 in
    let less : length c.read.new.reader < length c.args.reader.now = rw (← same) c.in_ok-item.ensures.shorter in
    next_left c.args.reader.now c.read.new.reader (view c.in_ok-item.item) going less
    (ap (λ ts. converted of_json (value 126 ts)) (sym same) ∙ c.in_ok-item.ensures.ok)

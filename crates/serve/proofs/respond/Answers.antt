-- `serve::respond` meets its contract: what is handed to `ports::send` is the reply, and the result says so. Assumes nothing.
use Rattle.std.proofs.Common.{refl, sym, ◌∙◌, arith}
use Rattle.number.specs.Put.Laws.{put_within, prefix_size}
use Rattle.serve.specs.Serving.Laws.{sent_is, handed_as, cut_as}
use Rattle.serve.proofs.respond.Goals as goal

pub slice_bounds-send-end : goal.slice_bounds-send-end
slice_bounds-send-end c = let e = c.in-Some.ensures in omega (arith, put_within _ _ _ _ e.answer (e.buffer _ refl))

pub slice_bounds-send-end-2 : goal.slice_bounds-send-end-2
slice_bounds-send-end-2 c =
    let e = c.in-Some.ensures in
    prefix_size _ c.replay.new.out (omega (arith, put_within _ _ _ _ e.answer (e.buffer _ refl)))

pub send-sent-requires : goal.send-sent-requires
send-sent-requires c =
    let e = c.in-Some.ensures in
    sent_is c.args.n c.args.journal.now c.args.out.now _ _ (e.answer, e.buffer _ refl)

pub returns : goal.returns
returns c =
    let e = c.in-Some.ensures in
    let h = handed_as c.args.n c.args.journal.now c.args.out.now _ _ c.requires (e.answer, e.buffer _ refl) c.send-sent.result c.send-sent.ensures in
    (sym c.is_whole.ensures ∙ c.if-not-is_whole.false, h.0, h.1)

pub returns-then-not-is_whole : goal.returns-then-not-is_whole
returns-then-not-is_whole c =
    let e = c.in-Some.ensures in
    let h = handed_as c.args.n c.args.journal.now c.args.out.now _ _ c.requires (e.answer, e.buffer _ refl) c.send-sent.result c.send-sent.ensures in
    (sym c.is_whole.ensures ∙ c.if-not-is_whole.true, c.say-said-then-not-is_whole.ensures, h.0, h.1)

pub returns-in_default : goal.returns-in_default
returns-in_default c = (
  refl,
  c.say-said.ensures,
  cut_as _ _ _ _ c.in_default.ensures.answer c.replay.ensures.begun c.replay.ensures.room,
)

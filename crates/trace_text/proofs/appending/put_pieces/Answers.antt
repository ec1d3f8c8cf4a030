use Rattle.std.proofs.Common.{sym, ◌∙◌}
use Rattle.trace_text.proofs.Answering.{then_more}
use Rattle.trace_text.proofs.Decoding.{piece_written, all_written}
use Rattle.trace_text.proofs.appending.put_pieces.Goals as goal

pub loop-left-preserved : goal.loop-left-preserved
loop-left-preserved c = record {
  left = piece_written c.args.octets.now c.args.into.now.items c.loop-left.into.items c.put_piece.new.into.items
      c.loop-left.left.now _ _ c.split_at.ensures.by_index.0 c.in_ok-put_piece.ensures.ok c.loop-left.invariant.left;
  grew = then_more _ _ _ _ c.loop-left.invariant.grew c.in_ok-put_piece.ensures.ok;
}

pub returns-clause-ok : goal.returns-clause-ok
returns-clause-ok c =
    all_written c.args.octets.now c.args.into.now.items c.loop-left.into.items c.loop-left.left.now
    (sym c.is_empty.ensures ∙ c.loop-left-test.false) c.loop-left.invariant.left

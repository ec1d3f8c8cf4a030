use Rattle.std.proofs.Common.{◌≡◌, suc, true, ◌++◌, sym, ap, ◌∙◌, add-one, arith}
use Rattle.lan_base.specs.declared.association_number.AssociationNumber.TheVariants.{An0}
use Rattle.gcm_frames.specs.Protected.{protected}
use Rattle.workbench_cases.specs.Frames.{destination_after, frame_tag_after, frame_to, sender, tag_in}
use Rattle.workbench_cases.specs.Work.{changed}
use Rattle.workbench_cases.proofs.ciphers.frames.last_frame_tag.Goals as goal

pub loop-done-preserved : goal.loop-done-preserved
loop-done-preserved c =
    let n = c.loop-done.done in
    let was = c.loop-done.invariant in
    let frame : c.deref.result.now ≡ frame_to (destination_after n) (suc n) 7 =
    c.deref.ensures.value ∙ (c.protect.ensures.appended ∙ (λ i. c.clear.ensures.items i ++ protected ((c.of-key.ensures ∙ c.test_key.ensures) i) sender An0 (add-one n i) true (record { destination = record { 0 = was.destination i }; body = was.body i }))) in
    let tag : c.tag_in-tag.result ≡ tag_in (frame_to (destination_after n) (suc n) 7) =
    c.tag_in-tag.ensures ∙ ap tag_in frame in
    record {
      destination = (λ i. changed (was.destination i) (tag i)) ∙ ap destination_after (sym (add-one n));
      body = was.body;
      count = was.count;
      room = omega arith;
      tag = tag ∙ ap frame_tag_after (sym (add-one n));
    }

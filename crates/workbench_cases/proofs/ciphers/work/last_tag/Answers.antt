use Rattle.std.proofs.Common.{◌≡◌, suc, ◌+◌, ◌%◌, [], ◌∷◌, set, get_or, sym, ap, ◌∙◌, add-one, arith}
use Rattle.gcm_core.specs.Gcm.{gcm}
use Rattle.workbench_cases.specs.Work.{changed, extra_after, iv_after, tag_after, tag_of}
use Rattle.workbench_cases.proofs.ciphers.work.last_tag.Goals as goal

pub loop-done-preserved : goal.loop-done-preserved
loop-done-preserved g c =
    let n = c.loop-done._done in
    let k = c.args.key.now in
    let was = c.loop-done.invariant in
    let last : ((1 + n) % 256 + 1) % 256 ≡ (1 + (n + 1)) % 256 = omega arith in
    let iv : set c.loop-done.iv 11 ((get_or c.loop-done.iv 11 0 + 1) % 256) ≡ iv_after (n + 1) =
    ap (λ v. set v 11 ((get_or v 11 0 + 1) % 256)) was.iv ∙ (λ i. 2 ∷ 0 ∷ 0 ∷ 0 ∷ 0 ∷ 10 ∷ 0 ∷ 1 ∷ 0 ∷ 0 ∷ 0 ∷ last i ∷ []) in
    let next = iv ∙ ap iv_after (add-one n) in
    let tag : c.seal-tag.result ≡ tag_of k g.row.N (suc n) (extra_after k g.row.N n) =
    sym (ap (λ r. r.1) c.seal-tag.ensures) ∙ (λ i. (gcm k (next i) (was.extra i) (c.stepped-text.ensures i)).1) in
    record {
      iv = iv;
      extra = (λ i. changed (was.extra i) (tag i)) ∙ ap (extra_after k g.row.N) (sym (add-one n));
      tag = tag ∙ ap (tag_after k g.row.N) (sym (add-one n));
    }

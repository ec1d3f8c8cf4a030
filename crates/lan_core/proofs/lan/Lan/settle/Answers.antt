use Rattle.std.proofs.Common.{◌≡◌, ◌++◌, List, sym, ap, ◌∙◌, subst, Result, Ok, Err, OnOk}
use Rattle.lan_core.specs.declared.waiting.Sealed.{Sealed}
use Rattle.lan_core.specs.Standing.{StandsFor}
use Rattle.lan_core.specs.Parts.{followed_by, without_claims}
use Rattle.lan_core.proofs.SettledPart.{settles-part}
use Rattle.lan_core.proofs.lan.Lan.settle.Goals as goal

on-ok : {A B : Type 0} (r : Result A B) (P Q : Type 0) → (P → Q) → OnOk r P → OnOk r Q
on-ok (Ok a) P Q f h = f h
on-ok (Err e) P Q f h = tt

pub returns-clause-stands : goal.returns-clause-stands
returns-clause-stands c settings users part r stands stepped are =
    let now = c.self.inside in
    let st = subst (λ lan. StandsFor settings users lan (followed_by (without_claims part) r)) (sym c.self.view_is) stands in
    let settled = settles-part settings users part r _ c.args.taken.items st stepped are in
    on-ok c.append.result (c.append.new.self ≡ now.waiting ++ c.in_ok-frames.frames) _
    (λ is. subst (λ (ws : List Sealed). StandsFor settings users (record {
      settings = now.judge.settings;
      stopped = now.stopped;
      names = now.names;
      air = now.air;
      seats = now.seats;
      waiting = ws;
      ticks = now.ticks;
      drawn = now.drawn;
    }) (followed_by part r)) (sym (is ∙ ap (λ fs. now.waiting ++ fs) c.in_ok-frames.ensures)) settled)
    c.append.ensures.ok

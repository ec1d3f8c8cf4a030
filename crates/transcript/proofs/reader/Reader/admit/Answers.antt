use Rattle.std.proofs.Common.{◌≡◌, ◌∙◌, ◌++◌, ◌∷◌, [], None, length, sym, ap, subst, arith}
use Rattle.std.proofs.lemmas.List.{length-append}
use Rattle.transcript.specs.Rendering.{AreNames}
use Rattle.transcript.specs.inside.Reading.{station_of}
use Rattle.transcript.proofs.NamesRead.{are-more, is-new, answered-more, answered-back}
use Rattle.transcript.proofs.reader.Reader.admit.Goals as goal

pub invariant_of-self : goal.invariant_of-self
invariant_of-self c =
    let before = c.self.inside.names.items in
    let name = c.args.name in
    let same : before ≡ c.args.self.now = c.self.view_is in
    let none : station_of before name ≡ None = ap (λ ns. station_of ns name) same ∙ c.requires.unknown in
    let new = is-new before name c.self.invariant.0.1 c.self.invariant.1 none in
    let items : c.push_reserved.new.self.items ≡ before ++ name ∷ [] = c.push_reserved.ensures.items in
    let count : length c.push_reserved.new.self.items ≡ length (before ++ name ∷ []) = ap length items in
    let one = length-append before (name ∷ []) in
    let places : length before ≡ length c.args.self.now = ap length same in
    let room = c.requires.room in (
      subst AreNames (sym items) (are-more before name c.self.invariant.0 c.requires.named new),
      omega (arith, count, one, places, room),
      c.push_reserved.ensures.capacity ∙ c.self.invariant.2,
    )

pub returns-in-Ok : goal.returns-in-Ok
returns-in-Ok c =
    answered-more c.args.self.now c.self.inside.names.items c.push_reserved.new.self.items
    c.as_slice.result.now c.args.line.now c.args.name c.in-Ok.fact c.self.view_is
    c.push_reserved.ensures.items c.as_slice.ensures.value c.in-Ok.ensures.answers

pub returns-in-Err : goal.returns-in-Err
returns-in-Err c =
    answered-back c.args.self.now c.self.inside.names.items c.push_reserved.new.self.items
    c.as_slice.result.now c.pop.new.self.items c.args.line.now c.args.name _ c.in-Err.fault
    c.self.view_is c.push_reserved.ensures.items c.as_slice.ensures.value c.as_slice.ensures.len
    c.pop.ensures.rest
    c.in-Err.ensures.answers c.in-Err.ensures.frames

use Rattle.std.proofs.Common.{◌≡◌, ◌∷◌, ◌<◌, subst}
use Rattle.known_keys.specs.declared.giving.Giving.TheVariants.{Key}
use Rattle.known_keys.specs.History.{Gave, keys}
use Rattle.known_keys.specs.Standing.{KeptKeys, StandsFor}
use Rattle.known_keys.specs.Telling.{told_of}
use Rattle.known_keys.specs.Said.{Statement}
use Rattle.known_keys.specs.Undecided.{GroupId}
use Rattle.known_keys.specs.inside.Missing.{IsOffered}
use Rattle.known_keys.specs.inside.Sets.{IsPut}
use Rattle.known_keys.proofs.Givens.{gives_of, told-is}
use Rattle.known_keys.proofs.GiveStands.{gave-stands}
use Rattle.known_keys.proofs.known_keys.KnownKeys.give.Goals as goal

pub returns-clause-gave : goal.returns-clause-gave
returns-clause-gave c = λ history stands.
    let d = c.self.inside in
    let old : KeptKeys = record { keys = d.keys; lists = d.lists; firsts = d.givings; said = d.said; misses = d.misses } in
    let new : KeptKeys = record { keys = c.number.new.self; lists = c.open.new.self; firsts = c.note.new.self; said = c.put.new.self; misses = c.offer.new.self } in
    subst (λ (m : KeptKeys). StandsFor history m → m.firsts.last < c.args.packet
    → StandsFor (Gave c.args.packet c.args.nanos c.args.group c.args.id c.args.an (Key c.args.offset c.args.sak) ∷ history) new) c.self.view_is
    (λ are above. gave-stands history c.args.packet c.args.nanos c.args.group c.args.id c.args.an c.args.offset c.args.sak
    c.in_ok-number.number old new c.in_ok-note.note c.in_ok-fresh.fresh are above (c.in_ok-number.ensures.keyed (keys history) are.are_kept)
    c.in_ok-open.ensures c.in_ok-note.ensures
    (subst (λ (s : Statement). IsPut s d.said c.put.new.self c.in_ok-fresh.fresh) c.statement_of.ensures c.in_ok-fresh.ensures)
    (subst (λ (g : GroupId). IsOffered c.args.an g c.args.nanos c.args.offset d.misses c.offer.new.self) c.group_id.ensures c.in_ok-offer.ensures))
    stands c.requires

pub returns-clause-told : goal.returns-clause-told
returns-clause-told c = λ history stands.
    let key = c.in_ok-number.number in
    let others = c.in_ok-note.note in
    let fresh = c.in_ok-fresh.fresh in
    subst (λ (m : KeptKeys). StandsFor history m
    → gives_of key fresh.statement fresh.naming others.name others.id
    ≡ told_of history c.args.group c.args.id c.args.an c.args.offset key) c.self.view_is
    (λ are. told-is history c.args.group c.args.id c.args.an c.args.offset key c.args.packet c.self.inside.givings c.note.new.self
    others c.self.inside.said c.put.new.self fresh are.one_key are.is_said c.in_ok-note.ensures
    (subst (λ (s : Statement). IsPut s c.self.inside.said c.put.new.self fresh) c.statement_of.ensures c.in_ok-fresh.ensures))
    stands

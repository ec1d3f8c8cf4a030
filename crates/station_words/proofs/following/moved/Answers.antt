use Rattle.std.proofs.Common.{sym, ap, ◌∙◌}
use Rattle.lan_core.specs.declared.fact.Fact.{Fact}
use Rattle.group_safety.specs.Transmitting.{moved}
use Rattle.station_words.proofs.Carding.{drops-none, gives-card}
use Rattle.station_words.proofs.following.moved.Goals as goal

pub returns-in-Some-clause-tells : goal.returns-in-Some-clause-tells
returns-in-Some-clause-tells g c = λ a k t is has. c.install.ensures.tells a k t (ap (λ (f : Fact). moved f a.carried) (sym c.in-Installed.is) ∙ is)

pub returns-in-Began-clause-tells : goal.returns-in-Began-clause-tells
returns-in-Began-clause-tells g c = λ a k t is has. c.begin.ensures.tells a k t (ap (λ (f : Fact). moved f a.carried) (sym c.in-Began.is) ∙ is)

pub returns-in-Some-clause-keeps_up : goal.returns-in-Some-clause-keeps_up
returns-in-Some-clause-keeps_up g c = λ a k t is has. c.install.ensures.keeps_up a k t (ap (λ (f : Fact). moved f a.carried) (sym c.in-Installed.is) ∙ is)

pub returns-in-Began-clause-keeps_up : goal.returns-in-Began-clause-keeps_up
returns-in-Began-clause-keeps_up g c = λ a k t is has. c.begin.ensures.keeps_up a k t (ap (λ (f : Fact). moved f a.carried) (sym c.in-Began.is) ∙ is)

pub returns-in-Some-clause-catches_up : goal.returns-in-Some-clause-catches_up
returns-in-Some-clause-catches_up g c = λ a k t is has. c.install.ensures.catches_up a k t (ap (λ (f : Fact). moved f a.carried) (sym c.in-Installed.is) ∙ is)

pub returns-in-Began-clause-catches_up : goal.returns-in-Began-clause-catches_up
returns-in-Began-clause-catches_up g c = λ a k t is has. c.begin.ensures.catches_up a k t (ap (λ (f : Fact). moved f a.carried) (sym c.in-Began.is) ∙ is)

pub returns-in-Some-clause-cards : goal.returns-in-Some-clause-cards
returns-in-Some-clause-cards g c = λ a k up is has.
    let more = ap (λ (f : Fact). moved f a.carried) (sym c.in-Installed.is) ∙ is in
    gives-card c.args.fact.now c.in-Installed.id c.in-Installed.an c.in-Installed.epoch c.in-Installed.station c.in-Installed.sak c.args.card
    c.in-Some.card a.carried k c.args.control.now.view c.install.new.self.view c.in-Installed.is c.in-Some.is more (c.install.ensures.card a k up more)
    (λ e positive low. c.install.ensures.earlier a e up positive low)

pub returns-in-Dropped-clause-cards : goal.returns-in-Dropped-clause-cards
returns-in-Dropped-clause-cards g c = λ a k up is has.
    drops-none c.args.fact.now c.in-Dropped.id c.in-Dropped.an c.in-Dropped.station c.args.card a.carried.installs c.args.control.now.view c.end.new.self.view
    c.in-Dropped.is c.end.ensures.cards

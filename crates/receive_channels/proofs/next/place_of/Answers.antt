use Rattle.std.proofs.Common.{rules, tests, ap, ◌∙◌, length}
use Rattle.std.specs.Option.{unwrap_or}
use Rattle.std.proofs.lemmas.Iterator.{YieldsList-from_slice}
use Rattle.std.proofs.lemmas.Iterator.Search.{position_from_yields_List}
use Rattle.receive_channels.specs.declared.channel.Channel.{Channel}
use Rattle.receive_channels.specs.Channels.{is_before}
use Rattle.receive_channels.proofs.Few.{counted}
use Rattle.receive_channels.proofs.next.place_of.Goals as goal

pub returns-clause-place : goal.returns-clause-place
returns-clause-place c =
    let channels = c.args.channels.now in
    let place = position_from_yields_List (λ (channel : Channel). is_before c.args.sci.now channel.sci) _ _ _ c.position.ensures.ran (YieldsList-from_slice channels cc) (λ x b q k. search (rules, tests)) in
    c.unwrap_or.ensures ∙ (ap (λ o. unwrap_or o (length channels)) place ∙ counted (λ (channel : Channel). is_before c.args.sci.now channel.sci) channels)

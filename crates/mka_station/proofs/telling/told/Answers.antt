use Rattle.std.proofs.Common.{◌≡◌, ◌∙◌, ◌++◌, List, refl, ap}
use Rattle.std.specs.List.{find}
use Rattle.std.specs.Option.{option_or}
use Rattle.mkpdu_codec.specs.declared.peer.Peer.{Peer}
use Rattle.peer_lists.specs.Acceptance.{first_number}
use Rattle.peer_lists.specs.Histories.{recent}
use Rattle.peer_lists.specs.Listings.{numbers_of}
use Rattle.mka_station.proofs.Tells.{both-first, both-recent, told-is}
use Rattle.mka_station.proofs.telling.told.Goals as goal

pub returns : goal.returns
returns c = λ own h s.
    let mi = c.args.mi.now in
    let a = c.args.announcement.now in
    let one = c.named-live.result in
    let both = c.named-naming.result in
    let first : one.first ≡ first_number (numbers_of mi a.live) = c.named-live.ensures.first ∙ ap (λ (ps : List Peer). first_number (numbers_of mi ps)) c.as_slice.ensures.value in
    let young : one.recent ≡ find (recent h) (numbers_of mi a.live) = c.named-live.ensures.recent own h s ∙ ap (λ (ps : List Peer). find (recent h) (numbers_of mi ps)) c.as_slice.ensures.value in
    let firsts = both-first mi a one.first both.first first (c.named-naming.ensures.first ∙ ap (λ (ps : List Peer). option_or one.first (first_number (numbers_of mi ps))) c.as_slice-2.ensures.value) in
    let youngs = both-recent (recent h) mi a one.recent both.recent young (c.named-naming.ensures.recent own h s ∙ ap (λ (ps : List Peer). option_or one.recent (find (recent h) (numbers_of mi ps))) c.as_slice-2.ensures.value) in
    told-is mi h a (numbers_of mi a.live ++ numbers_of mi a.potential) _ _ both.recent both.first refl youngs firsts c.is_some.ensures c.listed_under.ensures

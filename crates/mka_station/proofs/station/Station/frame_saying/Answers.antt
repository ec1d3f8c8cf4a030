use Rattle.std.proofs.Common.{◌≡◌, ◌∙◌, ◌++◌, ℕ, Bool, List, Option, ap, subst}
use Rattle.std.specs.Prelude.{IfOk}
use Rattle.aes_cmac.specs.Cmac.{cmac}
use Rattle.lan_base.specs.declared.address.Mi.{Mi}
use Rattle.mkpdu_codec.specs.Written.{written}
use Rattle.mkpdu_codec.specs.declared.key_use.Uses.{Uses}
use Rattle.sak_exchange.specs.declared.report.Report.{Report}
use Rattle.mka_station.specs.Views.{is_server}
use Rattle.mka_station.specs.Announcing.{frame_of, uses_of}
use Rattle.mka_station.specs.inside.Found.{Found}
use Rattle.mka_station.specs.inside.Saying.{announced_by, given_after, lowest_by}
use Rattle.mka_station.proofs.station.Station.frame_saying.Goals as goal

pub returns : goal.returns
returns c = λ base mi h s.
    let now = c.args.self.now in
    let found = c.args.peer_view.now in
    let a = c.in_ok-announcement.announcement in
    let u = c.uses.ensures base mi h s in
    let serves : c.is_server-serves.result ≡ is_server found.server now.mi = c.is_server-serves.ensures ∙ ap (λ (f : Found). is_server f.server c.mi.result.now) c.peer_view.view_is ∙ ap (λ (i : Mi). is_server found.server i) c.mi.ensures in
    let g : c.given-given.result ≡ given_after now.setup.kek (is_server found.server now.mi) found.reports h =
    c.given-given.ensures.value base mi h s
    ∙ ap (λ (r : List Report). given_after c.kek.result.now c.is_server-serves.result r h) (c.deref.ensures.value ∙ ap (λ (f : Found). f.reports) c.peer_view.view_is)
    ∙ ap (λ (k : List ℕ). given_after k c.is_server-serves.result found.reports h) c.kek.ensures
    ∙ ap (λ (b : Bool). given_after now.setup.kek b found.reports h) serves in
    let said = c.in_ok-announcement.ensures.value ∙ ap (λ (x : Option Uses). announced_by now found c.args.mn x c.given-given.result) u ∙ ap (announced_by now found c.args.mn (uses_of (lowest_by c.args.lowest.now) h)) g in
    let same = ap (λ (k : List ℕ). written a ++ cmac k (written a)) c.ick.ensures ∙ ap (frame_of now.setup) said in
    subst (λ (xs : List ℕ). IfOk c.frame.result (λ o. o ≡ xs)) same c.frame.ensures

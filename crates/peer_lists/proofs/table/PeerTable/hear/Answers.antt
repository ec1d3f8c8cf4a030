-- The table's answer is the history's, and the table after it stands for the history with the announcement in front.
use Rattle.std.proofs.Common.{◌∙◌, ap, sym}
use Rattle.peer_lists.specs.Table.{Table}
use Rattle.peer_lists.proofs.Stands.{reason-told, vouched-told, answer-told, table-told, stands-dropped, outcome-dropped}
use Rattle.peer_lists.proofs.table.PeerTable.hear.Goals as goal

pub returns-in-Some-clause-answer : goal.returns-in-Some-clause-answer
returns-in-Some-clause-answer c =
    λ own h s.
    let rows = c.as_slice.ensures.value ∙ ap (λ (t : Table). t.rows) c.self.view_is in
    let reason = reason-told own c.args.self.now h c.args.heard.now c.place_of-place.result _ c.refusal.result rows c.place_of-place.ensures.bound c.place_of-place.ensures.place c.refusal.ensures s in
    sym (outcome-dropped own h c.args.heard.now c.in-Some.reason (reason ∙ c.in-Some.is))

pub returns-in-Some-clause-stands : goal.returns-in-Some-clause-stands
returns-in-Some-clause-stands c =
    λ own h s.
    let rows = c.as_slice.ensures.value ∙ ap (λ (t : Table). t.rows) c.self.view_is in
    let reason = reason-told own c.args.self.now h c.args.heard.now c.place_of-place.result _ c.refusal.result rows c.place_of-place.ensures.bound c.place_of-place.ensures.place c.refusal.ensures s in
    stands-dropped own c.args.self.now h c.args.heard.now c.in-Some.reason (reason ∙ c.in-Some.is) s

pub returns-in-None-clause-answer : goal.returns-in-None-clause-answer
returns-in-None-clause-answer c =
    λ own h s.
    let rows = c.as_slice.ensures.value ∙ ap (λ (t : Table). t.rows) c.self.view_is in
    let reason = reason-told own c.args.self.now h c.args.heard.now c.place_of-place.result _ c.refusal.result rows c.place_of-place.ensures.bound c.place_of-place.ensures.place c.refusal.ensures s in
    let vouched = vouched-told own c.args.self.now h c.args.heard.now c.accept.result c.accept.ensures.vouched s in
    c.accepted_as.ensures ∙ answer-told own h c.args.heard.now c.accept.result (reason ∙ c.in-None.is) vouched

pub returns-in-None-clause-stands : goal.returns-in-None-clause-stands
returns-in-None-clause-stands c =
    λ own h s.
    let rows = c.as_slice.ensures.value ∙ ap (λ (t : Table). t.rows) c.self.view_is in
    let reason = reason-told own c.args.self.now h c.args.heard.now c.place_of-place.result _ c.refusal.result rows c.place_of-place.ensures.bound c.place_of-place.ensures.place c.refusal.ensures s in
    let vouched = vouched-told own c.args.self.now h c.args.heard.now c.accept.result c.accept.ensures.vouched s in
    table-told own c.args.self.now c.accept.new.self h c.args.heard.now c.place_of-place.result _ c.accept.result rows c.place_of-place.ensures.bound c.place_of-place.ensures.place (reason ∙ c.in-None.is) vouched c.accept.ensures.table s

use Rattle.std.proofs.lemmas.Result.{err_from_is_err_and}
use Rattle.lan_core.specs.declared.fact.Fact.TheVariants.{Arrived}
use Rattle.transcript.proofs.Branches.{got, arrived_err, arrived_ok}
use Rattle.transcript.proofs.facts.arrived.Goals as goal

pub returns-in_err-arrival : goal.returns-in_err-arrival
returns-in_err-arrival c =
    let p = err_from_is_err_and c.from_residual-in_err-arrival.result c.from_residual-in_err-arrival.ensures.1 in
    rw (p.1, p.2)
    (arrived_err c.args.names.now _ _ _ c.in_ok-frame.frame c.in_ok-station.station _ (got _ _ _ _ c.number_32.ensures c.in_ok-frame.ensures.ok_part)
    (got _ _ _ _ c.station.ensures c.in_ok-station.ensures.ok_part)
    (c.in_err-arrival.ensures c.args.names.now (λ arrival. Arrived c.in_ok-frame.frame c.in_ok-station.station arrival)))

pub returns : goal.returns
returns c =
    arrived_ok c.args.names.now _ _ _ c.in_ok-frame.frame c.in_ok-station.station c.in_ok-arrival.arrival
    (got _ _ _ _ c.number_32.ensures c.in_ok-frame.ensures.ok_part) (got _ _ _ _ c.station.ensures c.in_ok-station.ensures.ok_part)
    (c.in_ok-arrival.ensures c.args.names.now (λ arrival. Arrived c.in_ok-frame.frame c.in_ok-station.station arrival))

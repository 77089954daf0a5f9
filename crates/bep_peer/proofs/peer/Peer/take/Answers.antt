use Rattle.bep_peer.specs.Member.{tables_of}
use Rattle.bep_peer.proofs.Unrefused.{config_unrefused, response_unrefused}
use Rattle.bep_peer.proofs.peer.Peer.take.Goals as goal

pub returns-in-ClusterConfig-clause-step : goal.returns-in-ClusterConfig-clause-step
returns-in-ClusterConfig-clause-step g c = λ session is. rw (c.in-ClusterConfig.is, ← c.as_slice.ensures) (c.take_config.ensures.step c.args.full session is)

pub returns-in-Index-clause-step : goal.returns-in-Index-clause-step
returns-in-Index-clause-step g c = λ session is. rw c.in-Index.is (c.take_index.ensures.step c.args.full session is)

pub returns-in-IndexUpdate-clause-step : goal.returns-in-IndexUpdate-clause-step
returns-in-IndexUpdate-clause-step g c = λ session is. rw c.in-IndexUpdate.is (c.take_update.ensures.step c.args.full session is)

pub returns-in-Response-clause-step : goal.returns-in-Response-clause-step
returns-in-Response-clause-step g c = λ session is. rw c.in-Response.is (c.take_response.ensures.step c.args.full session is)

pub returns-in-ClusterConfig-clause-unhidden : goal.returns-in-ClusterConfig-clause-unhidden
returns-in-ClusterConfig-clause-unhidden g c = λ goes session is. rw c.in-ClusterConfig.is (config_unrefused c.args.other c.take_config.new.self.trace.failed c.args.full session (tables_of c.args.self.now) c.in-ClusterConfig.named)

pub returns-in-Index-clause-unhidden : goal.returns-in-Index-clause-unhidden
returns-in-Index-clause-unhidden g c = λ goes session is. rw c.in-Index.is (c.take_index.ensures.unhidden goes c.args.full session is)

pub returns-in-IndexUpdate-clause-unhidden : goal.returns-in-IndexUpdate-clause-unhidden
returns-in-IndexUpdate-clause-unhidden g c = λ goes session is. rw c.in-IndexUpdate.is (c.take_update.ensures.unhidden goes c.args.full session is)

pub returns-in-Request-clause-unhidden : goal.returns-in-Request-clause-unhidden
returns-in-Request-clause-unhidden g c = λ goes session is. rw c.in-Request.is (c.take_request.ensures.unhidden goes session is)

pub returns-in-Response-clause-unhidden : goal.returns-in-Response-clause-unhidden
returns-in-Response-clause-unhidden g c = λ goes session is. rw c.in-Response.is (response_unrefused c.args.other c.take_response.new.self.trace.failed c.args.full session (tables_of c.args.self.now) c.in-Response.response)

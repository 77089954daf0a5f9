use Rattle.std.proofs.Common.{◌≡◌, ◌++◌}
use Rattle.std.specs.VecDeque.Iter.{deque_iter_rest}
use Rattle.bep_links.proofs.queue.copy_of.Given as goal

-- the messages so far with those that are left are all of them
abbrev pub invariant-loop-message : goal.invariant-loop-message
invariant-loop-message l = l.made.items ++ deque_iter_rest l.message-iterator ≡ l.messages.items

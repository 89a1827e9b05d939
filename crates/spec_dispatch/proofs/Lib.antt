-- F-10, what comes of the dispatcher's rounds, in reading order.

-- Store, abstract store and reference model make the same calls, since they reply alike to every list of calls.
pub mod Follows
-- The rounds over any machine for which some laws hold: which transactions are open at each point of a round.
pub mod Phases
-- Every script is over within as many rounds as there are scripts, with at most n(n + 1)/2 Commits.
pub mod Counting
-- The laws of rounds on the abstract store: nobody is stale before the first Commit of a round.
pub mod OnAbstract
-- The laws of rounds on the reference model: which calls each open transaction has had, and whose grants there were.
pub mod OnPlain
-- The tests before the dispatcher; it gives on the reference model what it gives on the store.
pub mod Same
-- The theorems: `dispatch-holds`, `same-dispatch`, `refusals-of-dispatch`.
pub mod DispatchTheorems
-- Serializability of the code: `serializability-of-code`, and F-7 of one more call, `moment-of-code`.
pub mod CodeTheorems
-- The definitions by index as loops go through them: none, and one more. For the code of crate dispatcher.
pub mod Loops
-- Edge cases, computed.
pub mod DispatchEdgeCases
-- What the statements are false of.
pub mod DispatchCounterexamples

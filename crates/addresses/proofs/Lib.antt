-- Condition 3, from what each step keeps up to the jobs. `Condition3` has the theorem; `ExpandJob` what it rests on at the level of the
-- expand job; `Meanings` that a binder resolves to its own name for ever and that resolved heads stay resolved; `Evaluation` what
-- evaluating keeps, local expansion included; `Expansion` that a right-hand side has no free variable, and `both-good`, of evaluating and expanding at
-- once; `Readable` that whatever a job writes can be read again.
pub mod Outcomes
pub mod Fitting
pub mod Owned
pub mod Evaluated
pub mod States
pub mod Meanings
pub mod Pieces
pub mod Evaluation
pub mod Costs
pub mod Shorter
pub mod Results
pub mod Expansion
pub mod ParseCharge
pub mod Faults
pub mod Endings
pub mod ParseLimits
pub mod ExpandJob
pub mod FreshBinders
pub mod Readable
pub mod Condition3

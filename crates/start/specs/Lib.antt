-- The marks that a judgement of axes leaves, and the increasing lists of a start.
pub mod Start

pub mod NumberLemmas
pub mod WordLemmas
pub mod NameLemmas
pub mod FirstLemmas
pub mod DirectiveLemmas
pub mod ExactLemmas
pub mod AnswerLemmas
pub mod EventsLemmas

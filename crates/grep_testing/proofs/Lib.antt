pub mod EndLemmas
pub mod OfferLemmas

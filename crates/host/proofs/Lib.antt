pub mod ReadLaws
pub mod FreshLaws
pub mod OpenLaws
pub mod StepLaws
pub mod LineLaws

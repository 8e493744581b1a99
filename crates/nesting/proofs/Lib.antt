pub mod OpenLaws

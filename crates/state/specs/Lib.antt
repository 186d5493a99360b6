-- SPDX-License-Identifier: MPL-2.0
pub mod Layout
pub mod State
pub mod Client
